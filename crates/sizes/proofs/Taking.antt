-- What a status comes to at a view: nothing stated, regressed, beyond, already finalised, or on with the last step.
-- Assumes nothing.
use mathlib.Core.Path.{◌≡◌, refl, sym, ap, ◌∙◌}
use mathlib.Core.Bool.{Bool, true, false, not, ◌&&◌}
use mathlib.Core.Option.{none, some}
use mathlib.Core.List.{List}
use Prim.Native.Nat.{ℕ, ◌-◌}
use lib.Dec.{eqb}
use lib.IntN.{ℤ}
use lib.Signed.{lt_z}
use Rattle.rules.specs.Message.{Bytes}
use Rattle.rules.specs.Session as R
use Rattle.rules.specs.Respond.{satisfied, absorbs, takes}
use Rattle.bidi_write.specs.declared.Cause.TheVariants as cause
use Rattle.worker.specs.View.{worker_of}
use Rattle.transport.specs.View.{view}
use Rattle.transport.specs.Valid.{Valid}
use Rattle.sizes.specs.Size.{Absorbs, Goes, Takes, settled_nothing}
use Rattle.transport.specs.declared.Session.{Session}
use Rattle.sizes.specs.declared.Settled.{Settled}
use Rattle.std.specs.declared.option.Option as opt
use Rattle.std.specs.Prelude.{Some, None}
use Rattle.bidi_write.specs.declared.Cause.{Cause}
use Rattle.transport.proofs.Numbers.{complete_is}

pub chosen : {b : Bool} (x y : R.Result) → b ≡ true → R.choose b x y ≡ x
unfolding R.choose
chosen x y e = rw e

pub passed_over : {b : Bool} (x y : R.Result) → b ≡ false → R.choose b x y ≡ y
unfolding R.choose
passed_over x y e = rw e

-- ---- finalised or not

module _ (s : Session) (k : Settled) (complete : Bool) (is : complete ≡ (s.worker.finalized && eqb s.worker.pending_requests.count 0)) where
  both : (finalised : Bool) (b : Bool) → (finalised && not complete) ≡ b → (store : Bytes) (table : List ℕ) → Valid s store table
      → (finalised && not (R.complete (view s store table))) ≡ b
  both finalised b e store table v = ap (λ (x : Bool). finalised && not x) (sym (complete_is s store table v) ∙ sym is) ∙ e

  pub goes_to-end : (finalised : Bool) → (finalised && not complete) ≡ true → Goes s finalised k (Some cause.AlreadyFinalized)
  goes_to-end finalised e = record { goes = λ store table last v. chosen _ _ (both finalised true e store table v) }

  pub goes_on : (finalised : Bool) → (finalised && not complete) ≡ false → Goes s finalised k None
  goes_on finalised e = record { goes = λ store table last v. passed_over _ _ (both finalised false e store table v) }

-- ---- a size or none

-- what follows a size that is absorbed
abbrev rest : Bool → (ℕ → ℕ → R.Session → R.Result) → ℕ → ℕ → R.Session → R.Result
rest finalised last k released v = R.choose (finalised && not (R.complete v)) (R.ending R.already_finalized k released v) (last k released v)

module _ (finalised : Bool) (s : Session) (store : Bytes) (table : List ℕ) where
  pub takes_none : Takes none finalised s store table (record { session = s; settled = settled_nothing; end = None }) table
  unfolding takes
  takes_none = record { phase_is = refl; beyond = refl; takes = λ last e v. refl; stays = λ e v. v }

  module _ (n : ℤ) where
    pub takes-regressed : lt_z n s.worker.persisted_size.0 ≡ true
        → Takes (some n) finalised s store table (record { session = s; settled = settled_nothing; end = Some cause.Regressed }) table
    unfolding takes view worker_of
    takes-regressed e = record { phase_is = refl; beyond = refl; takes = λ last f v. chosen _ _ e; stays = λ f v. v }

    pub takes-beyond : lt_z n s.worker.persisted_size.0 ≡ false → lt_z s.write_offset.0 n ≡ true
        → Takes (some n) finalised s store table (record { session = s; settled = settled_nothing; end = Some cause.Beyond }) table
    unfolding takes view worker_of
    takes-beyond e f = record { phase_is = refl; beyond = refl; takes = λ last g v. passed_over _ _ e ∙ chosen _ _ f; stays = λ g v. v }

    module _ (e : lt_z n s.worker.persisted_size.0 ≡ false) (f : lt_z s.write_offset.0 n ≡ false) (a : Session) (k : Settled) (table' : List ℕ) (done : Absorbs n finalised s store table a k table') where
      abbrev ruled : (ℕ → ℕ → R.Session → R.Result) → R.Result
      ruled last =
          let v = view s store table in
          let v' = R.set_worker (absorbs n finalised v.worker) v in
          rest finalised last (satisfied n finalised (R.waiters v)) (R.stored v - R.stored v') v'

      at-rule : (last : ℕ → ℕ → R.Session → R.Result) → takes (some n) finalised (view s store table) last ≡ ruled last
      unfolding takes view worker_of
      at-rule last = passed_over _ _ e ∙ passed_over _ _ f

      at_code : (last : ℕ → ℕ → R.Session → R.Result) → Valid s store table
          → ruled last ≡ rest finalised last k.completed k.released (view a store table')
      at_code last v = rw (done.completed_is, done.released_is v, done.view_is v)

      pub takes-absorbed : (w : opt.Option Cause) → Goes a finalised k w
          → Takes (some n) finalised s store table (record { session = a; settled = k; end = w }) table'
      takes-absorbed w g = record {
        phase_is = done.phase_is;
        beyond = done.beyond;
        stays = done.stays;
        takes = λ last f v. at-rule last ∙ at_code last v ∙ g.goes store table' last (done.stays f v);
      }
