-- The examples of the table "What a call gives back", and the order of the checks: where several refusals apply, the first one is given.
use mathlib.Core.Path.{refl}
use mathlib.Core.Bool.{Bool, true, false}
use mathlib.Core.Option.{none, some}
use mathlib.Core.List.{List, [], ◌∷◌, ◌++◌}
use Prim.Native.Nat.{ℕ, ◌-◌, ◌^◌}
use lib.ListN.{replicate}
use lib.IntN.{pos}
use Rattle.rules.specs.Basics.{All}
use Rattle.rules.specs.Message.{Bytes, end_of_stream, status, resource}
use Rattle.rules.specs.Spec.{write_form}
use Rattle.rules.specs.Session.{Call, append, flush, finalise, response, handshake, break, judge, failed_attempt, refused, attempt}
use Rattle.rules.specs.Opening.{Opening, turned_away, opens, bucket_prefix}
use Rattle.rules.specs.Bench.{sized}
use Rattle.rules.proofs.Evidence.Computed.{computed}
use Rattle.rules.proofs.Evidence.Table.{Row, row, Met, after, to, at}

-- C, store and slots, the bucket's name, the length of the payload, P, whether the response is finalised; capacity 9
abbrev opening : ℕ → ℕ → ℕ → Bytes → ℕ → ℕ → Bool → Opening
opening limit store slots name payload p finalised = record {
  limit = limit;
  asked = some 9;
  store_length = store;
  slots = slots;
  spec = write_form (record { bucket = bucket_prefix ++ name; object = 111 ∷ []; if_metageneration_match = none; if_metageneration_not_match = none }) none;
  response = record { write_status = some (resource (pos p) (record { number = pos 1 }) finalised); write_handle = none };
  checksum = none;
  payload = some (replicate payload 0);
  last_persisted_size = pos 0;
}

-- 10 bytes stored
abbrev ten : List Call
ten = append (1 ∷ 2 ∷ 3 ∷ 4 ∷ []) 4 ∷ append (1 ∷ 2 ∷ 3 ∷ 4 ∷ []) 4 ∷ append (1 ∷ 2 ∷ []) 4 ∷ flush 4 ∷ []

abbrev pub away : List Call
away = break end_of_stream ∷ judge 1 ∷ []

-- a redirect's detail with a token of 513 bytes
abbrev long_token : Bytes
long_token = 10 ∷ 129 ∷ 4 ∷ replicate 513 0

abbrev pub table : List Row
table =
    -- openings, each with the faults of all that follow
    row 1 (opens (opening 0 32768 0 [] 5 0 true)) (turned_away 1)
    ∷ row 1 (opens (opening 2097153 8388612 64 (98 ∷ []) 0 0 false)) (turned_away 1)
    ∷ row 1 (after (opens (opening 2097152 8388607 64 (98 ∷ []) 0 0 false)) [] (λ s. s.limit)) (some 2097152)
    ∷ row 2 (opens (opening 4 14 64 [] 5 0 true)) (turned_away 2)
    ∷ row 3 (opens (opening 4 15 64 [] 5 0 true)) (turned_away 3)
    ∷ row 4 (opens (opening 4 15 64 (98 ∷ []) 5 0 true)) (turned_away 4)
    ∷ row 5 (opens (opening 4 15 64 (98 ∷ []) 4 0 true)) (turned_away 5)
    ∷ row 5 (after (opens (opening 4 15 64 (98 ∷ []) 4 0 false)) [] (λ s. s.limit)) (some 4)
    -- the table's examples
    ∷ row 4 (after (at 0) [] (to (response (record { write_status = none; write_handle = some (replicate 1025 0) })))) (some (refused 4))
    ∷ row 6 (after (at 0) (away ++ (handshake (sized (pos 0)) ∷ [])) (to (break end_of_stream))) (some (refused 6))
    ∷ row 7 (after (at 5) (response (sized (pos 4)) ∷ []) (to (flush 4))) (some (refused 7))
    ∷ row 8 (after (at 0) ten (to (flush 4))) (some (refused 8))
    ∷ row 8 (after (at 0) (append (1 ∷ 2 ∷ 3 ∷ 4 ∷ []) 4 ∷ append (1 ∷ 2 ∷ 3 ∷ 4 ∷ []) 4 ∷ append (1 ∷ []) 4 ∷ flush 4 ∷ []) (to (flush 4))) (some (refused 8))
    ∷ row 9 (after (at 0) (replicate 16 (flush 4)) (to (flush 4))) (some (refused 9))
    ∷ row 10 (after (at (2 ^ 63 - 1)) (append (1 ∷ []) 4 ∷ []) (to (flush 4))) (some (refused 10))
    ∷ row 11 (after (at 0) [] (to (append (1 ∷ 2 ∷ 3 ∷ 4 ∷ []) 3))) (some (refused 11))
    ∷ row 12 (after (at 0) (finalise 4 ∷ []) (to (finalise 4))) (some (refused 12))
    ∷ row 13 (after (at 0) (break end_of_stream ∷ []) (to (judge 0))) (some (refused 13))
    -- 15 wherever a status holds a detail, whatever its code; an empty one is a redirect's
    ∷ row 15 (after (at 0) [] (to (break (status 14 (some (8 ∷ [])))))) (some (refused 15))
    ∷ row 4 (after (at 0) [] (to (break (status 10 (some long_token))))) (some (refused 4))
    ∷ row 0 (after (at 0) [] (to (break (status 10 (some []))))) (some (attempt 0))
    -- "Later calls check 7, 12, 6, 13, 4, 11, 8, 9, 10", 15 "between 13 and 4": each with the fault of the next
    ∷ row 7 (after (at 5) (finalise 4 ∷ response (sized (pos 4)) ∷ []) (to (finalise 4))) (some (refused 7))
    ∷ row 12 (after (at 0) (finalise 4 ∷ break end_of_stream ∷ []) (to (flush 4))) (some (refused 12))
    ∷ row 6 (after (at 0) [] (to (judge 0))) (some (refused 6))
    ∷ row 13 (after (at 0) away (to (failed_attempt (status 10 (some (8 ∷ []))) 0))) (some (refused 13))
    ∷ row 15 (after (at 0) away (to (failed_attempt (status 10 (some (long_token ++ (8 ∷ [])))) 1))) (some (refused 15))
    ∷ row 15 (after (at 0) [] (to (break (status 10 (some (long_token ++ (8 ∷ []))))))) (some (refused 15))
    ∷ row 6 (after (at 0) away (to (break (status 10 (some (8 ∷ [])))))) (some (refused 6))
    ∷ row 11 (after (at 0) ten (to (append (1 ∷ 2 ∷ 3 ∷ 4 ∷ []) 3))) (some (refused 11))
    ∷ row 8 (after (at 0) (replicate 16 (flush 4) ++ ten) (to (flush 4))) (some (refused 8))
    ∷ row 9 (after (opens (opening 4 15 1 (98 ∷ []) 0 (2 ^ 63 - 2) false)) (append (1 ∷ []) 4 ∷ flush 4 ∷ append (1 ∷ []) 4 ∷ []) (to (flush 4))) (some (refused 9))
    ∷ []

pub refusals : All Met table
unfolding computed
refusals = (refl, (refl, (refl, (refl, (refl, (refl, (refl, (refl, (refl, (refl, (refl, (refl, (refl, (refl, (refl, (refl, (refl, (refl, (refl, (refl, (refl, (refl, (refl, (refl, (refl, (refl, (refl, (refl, (refl, (refl, (refl, tt)))))))))))))))))))))))))))))))
