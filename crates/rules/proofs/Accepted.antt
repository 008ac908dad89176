-- What an accepted opening gives.
use mathlib.Core.Path.{◌≡◌, refl}
use mathlib.Core.Bool.{Bool, false, ◌||◌}
use mathlib.Core.Option.{Option, none, some}
use mathlib.Core.List.{List, [], ◌∷◌}
use Prim.Native.Nat.{ℕ, zero, suc, ◌≤◌, ◌<◌}
use native.Mathlib.Omega.{arith}
use lib.ListN.{length}
use lib.Dec.{ltb, eqb}
use borrow.Author.Tests.{ltb-false, eqb-false}
use Rattle.rules.specs.Limits.{max_chunk, max_capacity}
use Rattle.rules.specs.Message.{Bytes, over, max_handle, max_token}
use Rattle.rules.specs.Spec.{object_of, token_of, handle_of}
use Rattle.rules.specs.Session.{Session}
use Rattle.rules.specs.Opening.{Opening, Opened, opened, asked_capacity, too_long, payload_length, open_session, first, opens}
use Rattle.rules.proofs.Tests.{or_no_left, or_no_right}
use Rattle.rules.proofs.Lists.{cond_ind, AllFalse}

pub first_passed : (rows : List (Bool × ℕ)) (r s : Session) → first rows (opened r) ≡ opened s → AllFalse rows × (r ≡ s)
unfolding first
first_passed [] r s e = (tt, cc)
first_passed (t ∷ ts) r s e =
    cond_ind Q t.0 (λ a f. let z : ◌≡◌ {A = ℕ} 0 1 = cc in absurd (omega arith)) (λ a f. let h = first_passed ts r s f in ((a, h.0), h.1)) e
  where
    Q : Opened → Type 0
    Q x = x ≡ opened s → AllFalse (t ∷ ts) × (r ≡ s)

pub record Accepted (o : Opening) (s : Session) : Type 0 where
  pub is : open_session o ≡ s
  pub positive : 0 < o.limit
  pub limit_most : o.limit ≤ max_chunk
  pub asked_most : asked_capacity o ≤ max_capacity
  pub payload_most : payload_length o.payload ≤ o.limit

positive_of : (n : ℕ) → (n ≡ 0 → ⊥) → 0 < n
positive_of zero h = absurd (h refl)
positive_of (suc n) h = omega arith

payload_of_lem : (p : Option Bytes) (n : ℕ) → over n p ≡ false → payload_length p ≤ n
payload_of_lem none n e = omega arith
payload_of_lem (some b) n e = ltb-false n (length b) e

pub accepted : (o : Opening) (s : Session) → opens o ≡ opened s → Accepted o s
unfolding opens too_long
accepted o s a =
    let f = first_passed _ (open_session o) s a in
    let size : (eqb o.limit 0 || ltb max_chunk o.limit) ≡ false = or_no_left _ _ f.0.0 in
    record {
      is = f.1;
      positive = positive_of o.limit (eqb-false o.limit 0 (or_no_left _ _ size));
      limit_most = ltb-false max_chunk o.limit (or_no_right (eqb o.limit 0) _ size);
      asked_most = ltb-false max_capacity (asked_capacity o) (or_no_right (eqb o.limit 0 || ltb max_chunk o.limit) _ f.0.0);
      payload_most = payload_of_lem o.payload o.limit (or_no_right
          (ltb 1024 (length (object_of o.spec)) || over max_token (token_of o.spec) || over max_handle (handle_of o.spec) || over max_handle o.response.write_handle) _
          f.0.1.1.1.0);
    }
