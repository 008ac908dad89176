-- P1 to P10 of document 01, "Marked P": one table, one theorem. A row about a session starts from an accepted opening.
use mathlib.Core.Path.{refl}
use mathlib.Core.Option.{none, some}
use mathlib.Core.List.{List, [], ◌∷◌, ◌++◌, map}
use Prim.Native.Nat.{ℕ}
use lib.ListN.{length}
use lib.IntN.{pos, negsuc}
use Rattle.crc32c.specs.Reg.{crc_of}
use Rattle.rules.specs.Basics.{All}
use Rattle.rules.specs.Session.{ReplayChunk, regressed, permanent, exhausted, Call, append, flush, response, break, judge, failed_attempt, took, completes, ok, ends, answers, chunks, stored}
use Rattle.rules.specs.Step.{step}
use Rattle.rules.specs.Opening.{opens}
use Rattle.rules.specs.Bench.{sized, opening}
use Rattle.rules.proofs.Evidence.Computed.{computed}
use Rattle.rules.proofs.Evidence.Table.{Row, row, Met, after, to, at, redirection}

-- so many redirects
abbrev pub two : List Call
two = break redirection ∷ judge 3 ∷ failed_attempt redirection 3 ∷ []

abbrev pub three : List Call
three = two ++ (failed_attempt redirection 3 ∷ [])

abbrev pub table : List Row
table =
    -- "P1 held 3, C 4, append 1: one chunk, none held."
    row 1 (after {A = ℕ × ℕ} (at 0) (append (1 ∷ 2 ∷ 3 ∷ []) 4 ∷ append (4 ∷ []) 4 ∷ []) (λ s. (length (chunks s), length s.writer.held))) (some (1, 0))
    -- "P2 append 0: 0.", in any session
    ∷ row 2 (step (append [] 0)) (λ s. answers (took 0 none) s)
    -- "P3 size equal to P: accepted."
    ∷ row 3 (after (at 5) [] (to (response (sized (pos 5))))) (some (completes 0 0 none))
    -- "P4 one less: regressed."
    ∷ row 4 (after (at 5) [] (to (response (sized (pos 4))))) (some (ends regressed 0 0 0))
    -- "P5 chunk 4 to 6, report 5: 1 byte left."
    ∷ row 5 (after (at 4) (append (1 ∷ 2 ∷ []) 4 ∷ flush 4 ∷ response (sized (pos 5)) ∷ []) stored) (some 1)
    -- "P6 capacity 8 asked, C 4: 9."
    ∷ row 6 (after (opens (opening 4 8 (pos 0) none)) [] (λ s. s.worker.replay_buffer.capacity)) (some 9)
    -- "P7 third redirect, verdict 3: continue."
    ∷ row 7 (after (at 0) two (to (failed_attempt redirection 3))) (some ok)
    -- "P8 fourth: exhausted;
    ∷ row 8 (after (at 0) three (to (failed_attempt redirection 3))) (some (ends exhausted 0 0 0))
    -- with verdict 2 permanent."
    ∷ row 8 (after (at 0) three (to (failed_attempt redirection 2))) (some (ends permanent 0 0 0))
    -- "P9 empty payload, P = −1: one empty chunk stored."
    ∷ row 9 (after (opens (opening 4 9 (negsuc 0) (some []))) [] (λ s. map ReplayChunk.bytes (chunks s))) (some ([] ∷ []))
    -- "P10 CRC32C of nothing is 0."
    ∷ row 10 (crc_of []) 0
    ∷ []

pub points : All Met table
unfolding computed
points = (refl, (refl, (refl, (refl, (refl, (refl, (refl, (refl, (refl, (refl, (refl, tt)))))))))))
