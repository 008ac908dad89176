-- The spec of the code as the rules' spec.
use Rattle.std.specs.Prelude.{Bool, true, false, ℕ, ◌≤◌, take, IfSome}
use Rattle.std.proofs.Math.Option.{Option, none, some}
use Rattle.rules.specs.Message as M
use Rattle.rules.specs.Spec as R
use Rattle.bidi_write.specs.View.{generation_of, metageneration_of}
use Rattle.bidi_write.specs.declared.Metageneration.{Metageneration}
use Rattle.state.specs.declared.Text.{Text}
use Rattle.std.specs.declared.option.Option as opt
use Rattle.std.specs.Prelude.{Some, None}
use Rattle.state.specs.declared.AppendObjectSpec.{AppendObjectSpec}
use Rattle.state.specs.declared.AppendObjectSpecState.{AppendObjectSpecState}

-- the bytes that count, where there are any
abbrev pub text_of : {n : ℕ} → opt.Option (Text n) → Option M.Bytes
text_of None = none
text_of (Some t) = some (take t.length t.bytes)

-- their length is one that the array holds
abbrev pub Fits : (n : ℕ) → opt.Option (Text n) → Type 0
Fits n t = IfSome t (λ x. x.length ≤ n)

abbrev pub condition_of : opt.Option Metageneration → Option M.Metageneration
condition_of None = none
condition_of (Some n) = some (metageneration_of n)

unfoldable pub spec_of : AppendObjectSpec → R.AppendObjectSpec
spec_of a = record {
  bucket = take a.bucket.length a.bucket.bytes;
  object = take a.object.length a.object.bytes;
  generation = generation_of a.generation;
  write_handle = text_of a.write_handle;
  routing_token = text_of a.routing_token;
  if_metageneration_match = condition_of a.if_metageneration_match;
  if_metageneration_not_match = condition_of a.if_metageneration_not_match;
}

abbrev pub write_of : AppendObjectSpec → R.WriteObjectSpec
write_of a = record {
  bucket = take a.bucket.length a.bucket.bytes;
  object = take a.object.length a.object.bytes;
  if_metageneration_match = condition_of a.if_metageneration_match;
  if_metageneration_not_match = condition_of a.if_metageneration_not_match;
}

abbrev pub form_of : Bool → AppendObjectSpec → R.AppendObjectSpecState
form_of true a = R.append_form (spec_of a)
form_of false a = R.write_form (write_of a) (text_of a.routing_token)

unfoldable pub state_of : AppendObjectSpecState → R.AppendObjectSpecState
state_of s = form_of s.append s.spec

-- the lengths that the arrays hold
pub record SpecFits (a : AppendObjectSpec) : Type 0 where
  pub bucket : a.bucket.length ≤ 256
  pub object : a.object.length ≤ 1024
  pub handle : Fits 1024 a.write_handle
  pub token : Fits 512 a.routing_token

-- the state that an opening dials with: a Write form has no generation and no handle
abbrev pub opened : Bool → M.Bytes → M.Bytes → M.Generation → Option M.Bytes → Option M.Bytes → Option M.Metageneration → Option M.Metageneration → R.AppendObjectSpecState
opened true bucket object g handle token c d = R.append_form (record {
  bucket = bucket;
  object = object;
  generation = g;
  write_handle = handle;
  routing_token = token;
  if_metageneration_match = c;
  if_metageneration_not_match = d;
})
opened false bucket object g handle token c d = R.write_form (record {
  bucket = bucket;
  object = object;
  if_metageneration_match = c;
  if_metageneration_not_match = d;
}) token
