-- The answers that the code gives are those of the definition.
-- Assumes nothing.
use Rattle.std.proofs.Common.{◌≡◌, ℕ, ◌<◌, ◌≤◌, true, false, ◌++◌, length, take, drop, sym, ap, ◌∙◌, zero-add, arith, take_at, le-ltb, lt-ltb}
use lib.Seq.{sets-eq}
use Rattle.rules.specs.Message.{Bytes}
use Rattle.copying.specs.Written.{Written}
use Rattle.copying.proofs.Written.{written-length}
use Rattle.bidi_write.specs.View.{length_of, request_of}
use Rattle.bidi_write.specs.declared.Refusal.TheVariants as refusal
use Rattle.bidi_write.specs.declared.Request.{Request}
use Rattle.wire_format.specs.Wire.{read_request, wire, shortest, InRange}
use Rattle.wire_format.proofs.Back.{reads_back}
use Rattle.wire_format.proofs.Shortest.{shortest_is}
use Rattle.wire.specs.Answer.{refuses, answered, written, Writes}
use Rattle.std.specs.Prelude.{Ok, Err}

module _ (r : Request) (lent buffer : Bytes) (h : InRange (request_of r lent)) where
  refused : refuses r lent buffer ≡ true → Writes r lent buffer (Err refusal.ShortBuffer) buffer
  unfolding answered written
  refused t =
      record {
        answer_is = rw t;
        buffer_is = rw t;
        reads = λ n e. let z : ◌≡◌ {A = ℕ} 0 1 = cc in absurd (omega arith);
        within = λ n e. let z : ◌≡◌ {A = ℕ} 0 1 = cc in absurd (omega arith);
        least = shortest_is (request_of r lent) h;
      }

  pub data_short : length lent < length_of r.«data» → Writes r lent buffer (Err refusal.ShortBuffer) buffer
  unfolding refuses
  data_short l = refused (rw (lt-ltb (length lent) (length_of r.«data») l))

  module _ (given : length_of r.«data» ≤ length lent) where
    pub buffer_short : length buffer < shortest (request_of r lent) → Writes r lent buffer (Err refusal.ShortBuffer) buffer
    unfolding refuses
    buffer_short l = refused (rw (le-ltb (length lent) (length_of r.«data») given, lt-ltb (length buffer) (shortest (request_of r lent)) l))

    pub both_long : (m : ℕ) (buffer' : Bytes) → shortest (request_of r lent) ≤ length buffer → Written (wire (request_of r lent)) buffer buffer' 0 m
        → Writes r lent buffer (Ok m) buffer'
    unfolding answered written refuses shortest
    both_long m buffer' l w =
        let q = wire (request_of r lent) in
        let count : m ≡ length q = omega (arith, w.place) in
        let front : buffer' ≡ q ++ drop (length q) buffer
        = w.stored ∙ sets-eq q buffer 0 (omega arith) ∙ ap (λ (k : ℕ). q ++ drop k buffer) (zero-add (length q)) in
        let t : refuses r lent buffer ≡ false = rw (le-ltb (length lent) (length_of r.«data») given) (le-ltb (length buffer) (length q) l) in
        record {
          answer_is = rw t (ap Ok count);
          buffer_is = rw t front;
          reads = λ n e.
              let same : m ≡ n = cc in
              ap read_request (ap (take n) front ∙ take_at q (drop (length q) buffer) n (sym count ∙ same)) ∙ reads_back (request_of r lent) h;
          within = λ n e. let same : m ≡ n = cc in omega (arith, count, same, written-length w);
          least = shortest_is (request_of r lent) h;
        }
