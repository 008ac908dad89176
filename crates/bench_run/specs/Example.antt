-- Document 01's example of a run of the bench program, computed.
use Rattle.std.specs.Prelude.{◌≡◌, refl, [], ◌∷◌, ◌++◌, ℕ}
use Rattle.rules.specs.Message.{Bytes}
use Rattle.rules.proofs.Evidence.Computed.{computed}
use Rattle.text.specs.Ascii.{ascii}
use Rattle.text.specs.Decimal.{number}
use Rattle.bench_records.specs.Record.{bytes, reading}
use Rattle.bench_lines.specs.Text.{request, line_of}
use Rattle.bench_run.specs.Printed.{printed}

-- a number below 256, in 8 bytes
abbrev long : ℕ → Bytes
long n = n ∷ 0 ∷ 0 ∷ 0 ∷ 0 ∷ 0 ∷ 0 ∷ 0 ∷ []

-- "Input OP 4, 9, 0; AP abcdef; FL; RS 5; BR; VE 1; HS 5; NX three times; RS 6"
abbrev input : Bytes
input =
    ascii "OP" ++ (4 ∷ 0 ∷ 9 ∷ 0 ∷ 0 ∷ 0 ∷ []) ++ long 0
    ++ ascii "AP" ++ (6 ∷ 0 ∷ []) ++ ascii "abcdef"
    ++ ascii "FL"
    ++ ascii "RS" ++ long 5
    ++ ascii "BR"
    ++ ascii "VE" ++ (1 ∷ [])
    ++ ascii "HS" ++ long 5
    ++ ascii "NXNXNX"
    ++ ascii "RS" ++ long 6

example :
    printed input
    ≡ ascii "OP ok\n"
    ++ ascii "AP 4 0:4:fs\n"
    ++ ascii "AP 2 -\n"
    ++ ascii "FL 4:2:-\n"
    ++ ascii "FL 6:0:fs w1\n"
    ++ ascii "RS 0 -\n"
    ++ ascii "BR 1\n"
    ++ ascii "VE go\n"
    ++ ascii "HS 0\n"
    ++ ascii "NX 5:1:-\n"
    ++ ascii "NX 6:0:fs\n"
    ++ ascii "NX done\n"
    ++ ascii "RS 1 -\n"
unfolding computed number bytes reading request line_of printed
example = refl

-- "another first record ... ends the run"
ends : printed (ascii "FL" ++ input) ≡ []
unfolding bytes reading printed
ends = refl
