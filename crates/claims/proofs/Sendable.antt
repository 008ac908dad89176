-- Each request that a call hands out is written as the rules send it.
-- Assumes nothing.
use mathlib.Core.Path.{◌≡◌, refl, sym, ap, ◌∙◌}
use mathlib.Core.Option.{Option, some}
use Prim.Native.Nat.{◌≤◌}
use native.Mathlib.Omega.{arith}
use borrow.Author.Tests.{le-ltb}
use lib.ListN.{length, length-take}
use Rattle.rules.specs.Message.{Bytes, Request}
use Rattle.rules.specs.Session as R
use Rattle.rules.specs.Notes.{request_in, data_in, content_of}
use Rattle.bidi_write.specs.View.{length_of, data_of, request_of}
use Rattle.std.specs.declared.option.Option as opt
use Rattle.std.specs.declared.result.Result.{Result}
use Rattle.std.specs.Prelude.{Some, None, Ok, Err}
use Rattle.bidi_write.specs.declared.Refusal.{Refusal}
use Rattle.bidi_write.specs.declared.ChecksummedData as code-data
use Rattle.bidi_write.specs.declared.Request as code
use Rattle.transport.specs.View.{answer_of, maybe_of, maybe_length, handed}
use Rattle.transport.specs.declared.Answer.{Answer}
use Rattle.transport.specs.declared.Answer.TheVariants as call
use Rattle.transport.specs.Claim.{Promises}
use Rattle.wire_format.specs.Wire.{content_length}
use Rattle.wire_format.proofs.Room.{shortest-room}
use Rattle.wire.specs.Answer.{refuses, answered}
use Rattle.claims.specs.Sendable.{AlwaysSendable}

hands : (x : Result Answer Refusal) (out : Bytes) → request_in (answer_of x out) ≡ maybe_of (handed x) out
hands (Err y) out = refl
hands (Ok (call.Took n r)) out = refl
hands (Ok (call.Sends r)) out = refl
hands (Ok (call.Waits r n)) out = refl
hands (Ok (call.Completes c)) out = refl
hands (Ok (call.Attempt n)) out = refl
hands (Ok call.Accepted) out = refl
hands (Ok call.Done) out = refl
hands (Ok (call.Ends e)) out = refl

-- data whose content is as long as it says is lent in full
in_full : (d : opt.Option code-data.ChecksummedData) (out : Bytes) → length (content_of (data_of d out)) ≡ length_of d → length_of d ≤ length out
in_full None out e = omega arith
in_full (Some d) out e = omega (arith, length-take d.length out)

content_in : (d : opt.Option code-data.ChecksummedData) (out : Bytes) → content_length (data_of d out) ≤ length out
content_in None out = omega arith
content_in (Some d) out = omega (arith, length-take d.length out)

pub handed_out_reads : AlwaysSendable Promises
unfolding answered refuses request_of
handed_out_reads c m out o store table out' p r e buffer a buffer' w =
    let shown : request_in (answer_of o.answer out') ≡ some (request_of r out') = hands o.answer out' ∙ ap (λ (m : opt.Option code.Request). maybe_of m out') e in
    let sized : length (data_in (some (request_of r out'))) ≡ length_of r.«data»
    = sym (ap (λ (q : Option Request). length (data_in q)) shown) ∙ p.sent_is ∙ ap maybe_length e in
    let given : length_of r.«data» ≤ length out' = in_full r.«data» out' sized in
    record {
      answers = w.answer_is ∙ rw (le-ltb (length out') (length_of r.«data») given);
      room = λ h. let n = content_in r.«data» out' in omega (arith, shortest-room (request_of r out') (omega arith));
      reads = λ n t. w.reads n t ∙ sym shown;
      ruled = λ v. ap (λ (x : R.Result). request_in x.answer) (p.steps v);
    }
