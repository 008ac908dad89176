-- A test that decides a proposition, and what a call that touches memory asks first.
-- Assumes nothing.
use mathlib.Core.Path.{◌≡◌, refl}
use mathlib.Core.Bool.{true, false}
use Prim.Native.Nat.{ℕ}
use Rattle.rules.specs.Session as R
use Rattle.rules.proofs.Tests.{clash}
use Rattle.std.specs.Prelude.{Ok, Err}
use Rattle.bidi_write.specs.declared.Refusal.TheVariants as refusal
use Rattle.bidi_write.proofs.Rows.{no_go}
use Rattle.transport.specs.View.{phase_of}
use Rattle.transport.specs.Valid.{GuardedAt, Decides, Enters}
use Rattle.transport.specs.declared.Session.{Session}

pub refuse : {P : Type 0} → (P → ⊥) → Decides P false
refuse f = record { yes = λ e. clash e refl; no = λ _. f }

module _ (s : Session) (store table : ℕ) where
  pub enters_over : R.is_ended (phase_of s.phase) ≡ true → Enters s store table (Err refusal.Ended)
  enters_over e = record { over = λ _. refl; unfit = λ f. clash e f; fits = λ f. clash e f; goes = no_go refusal.Ended }

  pub enters_goes : R.is_ended (phase_of s.phase) ≡ false → GuardedAt s store table → Enters s store table (Ok tt)
  enters_goes e g = record { over = λ f. clash f e; unfit = λ _ f. absurd (f g); fits = λ _ _. refl; goes = λ _. (e, g) }

  pub enters_unfit : R.is_ended (phase_of s.phase) ≡ false → (GuardedAt s store table → ⊥) → Enters s store table (Err refusal.ShortMemory)
  enters_unfit e g = record { over = λ f. clash f e; unfit = λ _ _. refl; fits = λ _ f. absurd (g f); goes = no_go refusal.ShortMemory }
