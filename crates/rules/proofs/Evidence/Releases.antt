-- What is released: "The number is the stored total before less the stored total after."
use mathlib.Core.Path.{refl}
use mathlib.Core.Option.{none, some}
use mathlib.Core.List.{List, [], ◌∷◌}
use Prim.Native.Nat.{ℕ}
use lib.IntN.{ℤ, pos, negsuc}
use Rattle.rules.specs.Basics.{All}
use Rattle.rules.specs.Message.{end_of_stream}
use Rattle.rules.specs.Session.{regressed, beyond, already_finalized, Call, append, flush, response, handshake, break, judge, completes, ends}
use Rattle.rules.specs.Upload.{flush_request}
use Rattle.rules.specs.Opening.{open_released}
use Rattle.rules.specs.Bench.{sized, opening}
use Rattle.rules.proofs.Evidence.Computed.{computed}
use Rattle.rules.proofs.Evidence.Table.{Row, row, Met, after, to, at}
use Rattle.rules.proofs.Evidence.Cases.{finalised_at, four}

-- chunks from 0 to 4 and from 4 to 6
abbrev six : List Call
six = four ∷ append (5 ∷ 6 ∷ []) 4 ∷ flush 4 ∷ []

-- of a payload of three bytes, by the P of the opening
abbrev of_payload : ℤ → ℕ
of_payload p = open_released (opening 4 9 p (some (1 ∷ 2 ∷ 3 ∷ [])))

abbrev pub table : List Row
table =
    -- a response inside the first chunk, at its end, inside the second, at the last end, and above it, which is *beyond*
    row 1 (after (at 0) six (to (response (sized (pos 3))))) (some (completes 0 3 (some (flush_request (pos 6)))))
    ∷ row 2 (after (at 0) six (to (response (sized (pos 4))))) (some (completes 0 4 (some (flush_request (pos 6)))))
    ∷ row 3 (after (at 0) six (to (response (sized (pos 5))))) (some (completes 0 5 (some (flush_request (pos 6)))))
    ∷ row 4 (after (at 0) six (to (response (sized (pos 6))))) (some (completes 0 6 none))
    ∷ row 5 (after (at 0) six (to (response (sized (pos 9))))) (some (ends beyond 0 0 0))
    -- at P, and the second of two
    ∷ row 6 (after (at 0) six (to (response (sized (pos 0))))) (some (completes 0 0 (some (flush_request (pos 6)))))
    ∷ row 7 (after (at 0) (four ∷ response (sized (pos 1)) ∷ []) (to (response (sized (pos 4))))) (some (completes 0 3 none))
    -- a handshake
    ∷ row 8 (after (at 0) (four ∷ break end_of_stream ∷ judge 1 ∷ []) (to (handshake (sized (pos 3))))) (some (completes 0 3 none))
    -- an end *already finalised* has released, one *regressed* has not
    ∷ row 9 (after (at 0) six (to (response (finalised_at 5)))) (some (ends already_finalized 0 5 0))
    ∷ row 10 (after (at 5) (four ∷ []) (to (response (sized (pos 4))))) (some (ends regressed 0 0 0))
    -- "the opening does so for its payload"
    ∷ row 11 (of_payload (negsuc 0)) 0
    ∷ row 12 (of_payload (pos 0)) 0
    ∷ row 13 (of_payload (pos 2)) 2
    ∷ row 14 (of_payload (pos 3)) 3
    ∷ row 15 (of_payload (pos 5)) 3
    ∷ row 16 (open_released (opening 4 9 (pos 5) none)) 0
    ∷ []

pub releases : All Met table
unfolding computed
releases = (refl, (refl, (refl, (refl, (refl, (refl, (refl, (refl, (refl, (refl, (refl, (refl, (refl, (refl, (refl, (refl, tt))))))))))))))))
