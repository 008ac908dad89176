-- Cases that tell a right reading of document 01 from a wrong one: its four "Likely misreadings" first.
use mathlib.Core.Path.{refl}
use mathlib.Core.Bool.{true, false}
use mathlib.Core.Option.{none, some}
use mathlib.Core.List.{List, [], ◌∷◌, map}
use Prim.Native.Nat.{ℕ}
use lib.IntN.{pos}
use Rattle.crc32c.specs.Reg.{crc_of}
use Rattle.rules.specs.Basics.{All}
use Rattle.rules.specs.Message.{Break, end_of_stream, status, other_error, resource, Response}
use Rattle.rules.specs.Spec.{AppendObjectSpec}
use Rattle.rules.specs.Session.{ReplayChunk, finished, beyond, already_finalized, given_up, stream_error, Session, Call, append, flush, finalise, close, send_failed, response, break, judge, refused, completes, attempt, ok, ends, chunks}
use Rattle.rules.specs.Upload.{flush_request}
use Rattle.rules.specs.Push.{sliced, push}
use Rattle.rules.specs.Bench.{sized}
use Rattle.rules.proofs.Evidence.Computed.{computed}
use Rattle.rules.proofs.Evidence.Table.{Row, row, Met, after, to, at, redirection}

abbrev pub finalised_at : ℕ → Response
finalised_at n = record { write_status = some (resource (pos n) (record { number = pos 1 }) true); write_handle = none }

abbrev unsized : Response
unsized = record { write_status = none; write_handle = none }

-- Unavailable, with a redirect's detail that has the handle 7 and generation 3
abbrev unavailable : Break
unavailable = status 14 (some (18 ∷ 3 ∷ 10 ∷ 1 ∷ 7 ∷ 24 ∷ 3 ∷ []))

abbrev spec : Session → AppendObjectSpec
spec s = s.worker.connector.spec

-- four bytes, which are cut, under the watermark
abbrev pub four : Call
four = append (1 ∷ 2 ∷ 3 ∷ 4 ∷ []) 4

abbrev pub table : List Row
table =
    -- "Satisfying waiters behind an unsatisfied front one." The flush in front wants a response that is not finalised.
    row 1 (after (at 0) (flush 4 ∷ finalise 4 ∷ []) (to (response (finalised_at 0)))) (some (ends already_finalized 0 0 2))
    -- "Leaving the old sum on a trimmed chunk."
    ∷ row 2 (after (at 4) (append (1 ∷ 2 ∷ []) 4 ∷ flush 4 ∷ response (sized (pos 5)) ∷ []) (λ s. map ReplayChunk.crc32c (chunks s))) (some (crc_of (2 ∷ []) ∷ []))
    -- "Keeping the mark after a response without size." It is cleared, so that the watermark holds again.
    ∷ row 3 (after (at 0) (four ∷ []) (to (response unsized))) (some (completes 0 0 (some (flush_request (pos 4)))))
    -- "Updating P on a regress."
    ∷ row 4 (after (at 5) (response (sized (pos 4)) ∷ []) (λ s. s.worker.persisted_size)) (some (pos 5))
    -- "a finalise wants the size and finalised"
    ∷ row 5 (after (at 0) (finalise 4 ∷ []) (to (response (sized (pos 0))))) (some (completes 0 0 none))
    ∷ row 6 (after (at 0) (finalise 4 ∷ []) (to (response (finalised_at 0)))) (some (completes 1 0 none))
    -- document 02, in place of "A size above the pushed end is accepted as the crate does.": Evidence/Past.antt has more of it
    ∷ row 7 (after (at 0) (four ∷ []) (to (response (sized (pos 9))))) (some (ends beyond 0 0 0))
    -- "It is a redirect only where the code is Aborted too. Another break adds 1 to the attempt number"
    ∷ row 8 (after (at 0) [] (to (break redirection))) (some (attempt 0))
    ∷ row 9 (after (at 0) [] (to (break unavailable))) (some (attempt 1))
    -- "replaces ... handle and generation where it has them, for any code"
    ∷ row 10 (after (at 0) (break unavailable ∷ []) (λ s. (spec s).write_handle)) (some (some (7 ∷ [])))
    ∷ row 11 (after (at 0) (break unavailable ∷ []) (λ s. (spec s).generation.number)) (some (pos 3))
    -- "4 host gives up", on a redirect too
    ∷ row 12 (after (at 0) (break redirection ∷ []) (to (judge 4))) (some (ends given_up 0 0 0))
    -- "Finalise sent and no waiter: *finished*."
    ∷ row 13 (after (at 0) (finalise 4 ∷ response (finalised_at 0) ∷ []) (to (break other_error))) (some (ends finished 0 0 0))
    -- "Closing: an end of stream finishes, dropping waiters; another break ends with a stream error unless finished."
    ∷ row 14 (after (at 0) (flush 4 ∷ close ∷ []) (to (break end_of_stream))) (some (ends finished 0 0 1))
    ∷ row 15 (after (at 0) (flush 4 ∷ close ∷ []) (to (break other_error))) (some (ends stream_error 0 0 1))
    -- "A send reported failed, allowed directly after an accepted call that sent (refused calls and empty appends between don't count), else 6"
    ∷ row 16 (after (at 0) (four ∷ append [] 4 ∷ judge 1 ∷ []) (to send_failed)) (some ok)
    ∷ row 17 (after (at 0) (four ∷ send_failed ∷ []) (to send_failed)) (some (refused 6))
    ∷ row 18 (after (at 0) (four ∷ append (5 ∷ []) 4 ∷ []) (to send_failed)) (some (refused 6))
    -- it "clears the mark after a bare flush, and else changes nothing"
    ∷ row 19 (after (at 0) (four ∷ response unsized ∷ send_failed ∷ []) (λ s. s.worker.self_flush_outstanding)) (some false)
    ∷ row 20 (after (at 0) (four ∷ send_failed ∷ []) (λ s. s.worker.self_flush_outstanding)) (some true)
    -- `push` of the source, where the bytes just reach C, and where they pass it
    ∷ row 21 (push 4 (1 ∷ 2 ∷ 3 ∷ []) (4 ∷ [])) ((1 ∷ 2 ∷ 3 ∷ 4 ∷ []) ∷ [], [])
    ∷ row 22 (push 2 (1 ∷ []) (2 ∷ 3 ∷ 4 ∷ 5 ∷ [])) ((1 ∷ 2 ∷ []) ∷ (3 ∷ 4 ∷ []) ∷ [], 5 ∷ [])
    ∷ []

pub cases : All Met table
unfolding computed sliced push
cases = (refl, (refl, (refl, (refl, (refl, (refl, (refl, (refl, (refl, (refl, (refl, (refl, (refl, (refl, (refl, (refl, (refl, (refl, (refl, (refl, (refl, (refl, tt))))))))))))))))))))))
