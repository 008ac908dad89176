-- Document 02: a report past the end "ends the session, cause *beyond*, after the spec update and the test for regress; P and the store keep their contents
-- and every waiter fails. The pushed end is the write offset. The opening is exempt." And the byte total in its two intervals.
use mathlib.Core.Path.{refl}
use mathlib.Core.Bool.{false}
use mathlib.Core.Option.{none, some}
use mathlib.Core.List.{List, [], ◌∷◌, ◌++◌, map}
use Prim.Native.Nat.{ℕ}
use lib.ListN.{length}
use lib.IntN.{ℤ, pos, negsuc}
use Rattle.rules.specs.Basics.{All}
use Rattle.rules.specs.Message.{resource, Response}
use Rattle.rules.specs.Session.{ReplayChunk, regressed, beyond, Session, Call, append, flush, close, response, handshake, completes, ends, set_worker, chunks, stored}
use Rattle.rules.specs.Respond.{absorbs}
use Rattle.rules.specs.Opening.{Opening, Opened, turned_away, opened, opens}
use Rattle.rules.specs.Bench.{sized, opening}
use Rattle.rules.specs.Calls.{Run, called_all, begin}
use Rattle.rules.specs.Total.{below_p}
use Rattle.rules.proofs.Evidence.Computed.{computed}
use Rattle.rules.proofs.Evidence.Table.{Row, row, Met, after, to, at}
use Rattle.rules.proofs.Evidence.Refusals.{away}
use Rattle.rules.proofs.Evidence.Cases.{finalised_at, four}

-- a chunk from 0 to 4, a byte held, and two waiters
abbrev five : List Call
five = four ∷ flush 4 ∷ flush 4 ∷ append (5 ∷ []) 4 ∷ []

-- the handle 7 and generation 3 beside the size
abbrev telling : ℕ → Response
telling n = record { write_status = some (resource (pos n) (record { number = pos 3 }) false); write_handle = some (7 ∷ []) }

-- P 9 with the write offset 0, which no calls lead to
abbrev astray : Session → Session
astray s = set_worker (absorbs (pos 9) false s.worker) s

-- payload `abc`, and P
abbrev abc : ℤ → Opening
abc p = opening 4 9 p (some (97 ∷ 98 ∷ 99 ∷ []))

-- bytes taken; those below P, stored and held
abbrev total : Run → Run → List ℕ
total b r = length r.notes.all ∷ below_p b r ∷ stored r.session ∷ length r.session.writer.held ∷ []

-- after the calls; none where the opening is refused
abbrev total_from : Opening → List Call → Opened → List ℕ
total_from o cs (turned_away n) = []
total_from o cs (opened s) = total (begin o s) (called_all cs (begin o s))

abbrev total_at : ℤ → List Call → List ℕ
total_at p cs = total_from (abc p) cs (opens (abc p))

abbrev pub table : List Row
table =
    -- equal to the write offset: accepted
    row 1 (after (at 0) five (to (response (sized (pos 4))))) (some (completes 2 4 none))
    -- one more: beyond, and every waiter fails. Held bytes are not pushed.
    ∷ row 2 (after (at 0) five (to (response (sized (pos 5))))) (some (ends beyond 0 0 2))
    ∷ row 3 (after (at 0) (append (1 ∷ []) 4 ∷ []) (to (response (sized (pos 1))))) (some (ends beyond 0 0 0))
    -- P, the store and what is held stay
    ∷ row 4 (after (at 0) (five ++ (response (sized (pos 5)) ∷ [])) (λ s. s.worker.persisted_size)) (some (pos 0))
    ∷ row 5 (after (at 0) (five ++ (response (sized (pos 5)) ∷ [])) (λ s. map ReplayChunk.bytes (chunks s))) (some ((1 ∷ 2 ∷ 3 ∷ 4 ∷ []) ∷ []))
    ∷ row 6 (after (at 0) (five ++ (response (sized (pos 5)) ∷ [])) (λ s. s.writer.held)) (some (5 ∷ []))
    -- "after the spec update"
    ∷ row 7 (after (at 0) (response (telling 1) ∷ []) (λ s. s.worker.connector.spec.generation.number)) (some (pos 3))
    ∷ row 8 (after (at 0) (response (telling 1) ∷ []) (λ s. s.worker.connector.spec.write_handle)) (some (some (7 ∷ [])))
    -- "and the test for regress"
    ∷ row 9 (after (at 0) [] (λ s. to (response (sized (pos 6))) (astray s))) (some (ends regressed 0 0 0))
    ∷ row 10 (after (at 0) [] (λ s. to (response (sized (pos 9))) (astray s))) (some (ends beyond 0 0 0))
    -- a finalised one too, and while closing
    ∷ row 11 (after (at 0) (four ∷ []) (to (response (finalised_at 5)))) (some (ends beyond 0 0 0))
    ∷ row 12 (after (at 0) (four ∷ close ∷ []) (to (response (sized (pos 5))))) (some (ends beyond 0 0 0))
    -- "or handshake", whose size is progress first
    ∷ row 13 (after (at 0) (five ++ away) (to (handshake (sized (pos 4))))) (some (completes 2 4 none))
    ∷ row 14 (after (at 0) (five ++ away) (to (handshake (sized (pos 5))))) (some (ends beyond 0 0 2))
    ∷ row 15 (after (at 0) (five ++ away ++ (handshake (sized (pos 5)) ∷ [])) (λ s. s.worker.connector.counters.last_persisted_size)) (some (pos 5))
    ∷ row 16 (after (at 0) (five ++ away ++ (handshake (sized (pos 5)) ∷ [])) (λ s. s.worker.persisted_size)) (some (pos 0))
    -- "The opening is exempt.": payload `abc`, P 5
    ∷ row 17 (after (opens (abc (pos 5))) [] (λ s. s.writer.write_offset)) (some (pos 5))
    ∷ row 18 (after (opens (abc (pos 5))) [] (to (response (sized (pos 5))))) (some (completes 0 0 none))
    ∷ row 19 (after (opens (abc (pos 5))) [] (to (response (sized (pos 6))))) (some (ends beyond 0 0 0))
    -- the total. Payload `abc`, P 5, append `d`: of four bytes three lie below P, and one is held. In one interval, from 0 on, all four would.
    ∷ row 20 (total_at (pos 5) (append (100 ∷ []) 4 ∷ [])) (4 ∷ 3 ∷ 0 ∷ 1 ∷ [])
    ∷ row 21 (total_at (pos 5) (append (100 ∷ []) 4 ∷ flush 4 ∷ [])) (4 ∷ 3 ∷ 1 ∷ 0 ∷ [])
    ∷ row 22 (total_at (pos 5) (append (100 ∷ []) 4 ∷ flush 4 ∷ response (sized (pos 6)) ∷ [])) (4 ∷ 4 ∷ 0 ∷ 0 ∷ [])
    -- P inside the payload, at its end, below 0; a size that ends the session releases nothing
    ∷ row 23 (total_at (pos 2) (append (100 ∷ []) 4 ∷ [])) (4 ∷ 2 ∷ 1 ∷ 1 ∷ [])
    ∷ row 24 (total_at (pos 3) (append (100 ∷ []) 4 ∷ flush 4 ∷ [])) (4 ∷ 3 ∷ 1 ∷ 0 ∷ [])
    ∷ row 25 (total_at (negsuc 0) (append (100 ∷ []) 4 ∷ response (sized (pos 1)) ∷ [])) (4 ∷ 1 ∷ 2 ∷ 1 ∷ [])
    ∷ row 26 (total_at (pos 2) (append (100 ∷ []) 4 ∷ response (sized (pos 4)) ∷ [])) (4 ∷ 2 ∷ 1 ∷ 1 ∷ [])
    ∷ []

pub past : All Met table
unfolding computed
past = (refl, (refl, (refl, (refl, (refl, (refl, (refl, (refl, (refl, (refl, (refl, (refl, (refl, (refl, (refl, (refl, (refl, (refl, (refl, (refl, (refl, (refl, (refl, (refl, (refl, (refl, tt))))))))))))))))))))))))))
