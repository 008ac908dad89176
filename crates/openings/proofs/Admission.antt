-- The refusals of an opening: what the code tests is what the rules test, and what an admitted opening keeps to.
-- Assumes nothing.
use mathlib.Core.Path.{◌≡◌, refl, sym, ◌∙◌}
use mathlib.Core.Bool.{Bool, true, false, not, cond, ◌&&◌, ◌||◌}
use mathlib.Core.Option.{Option, get_or}
use mathlib.Core.List.{[], ◌∷◌}
use Prim.Native.Nat.{ℕ, ◌+◌, ◌*◌, ◌≤◌, max}
use native.Mathlib.Omega.{arith}
use borrow.Author.Tests.{not-false, ltb-false, leb-true, eqb-false}
use lib.Dec.{ltb, eqb}
use lib.ListN.{length}
use Rattle.rules.specs.Limits.{default_capacity, store_size}
use Rattle.rules.specs.Message as M
use Rattle.rules.specs.Message.{Bytes}
use Rattle.rules.specs.Spec as S
use Rattle.rules.specs.Session as R
use Rattle.rules.specs.Opening as O
use Rattle.rules.proofs.Accepted.{first_passed}
use Rattle.rules.proofs.Tests.{and_right, or_no_left, or_no_right}
use Rattle.bidi_write.specs.View.{generation_of, given, status_of}
use Rattle.bidi_write.specs.Refusal.{number_of, Rows, checked, numbered}
use Rattle.std.specs.declared.result.Result.{Result}
use Rattle.std.specs.Prelude.{Ok, Err}
use Rattle.bidi_write.specs.declared.Refusal.{Refusal}
use Rattle.bidi_write.specs.declared.Refusal.TheVariants as refusal
use Rattle.bidi_write.proofs.Rows.{no_go}
use Rattle.state.specs.View.{condition_of, opened}
use Rattle.admission.specs.Rows.{bad_limits, open_rows}
use Rattle.admission.proofs.Limits.{within_limits}
use Rattle.openings.specs.Opening.{Beside, asked_of, opening_of, Admits}
use Rattle.openings.specs.declared.Opening.{Opening}

-- ---- what tests tell

good_length : (b : Bytes) → not (O.good_bucket b) ≡ false → length b ≤ 256
unfolding O.good_bucket
good_length b h = leb-true (length b) 256 (and_right (O.starts_with O.bucket_prefix b && ltb (length O.bucket_prefix) (length b)) _ (not-false _ h))

-- bytes that are not over n are at most n
pub not-over : (n : ℕ) (present : Bool) (b : Bytes) → M.over n (given present b) ≡ false → O.payload_length (given present b) ≤ n
not-over n true b h = ltb-false n (length b) h
not-over n false b h = omega arith

-- ---- rows

-- a row of two tests is two rows with the same refusal
either_row : (a b : Bool) (x y : O.Opened) → cond (a || b) x y ≡ cond a x (cond b x y)
either_row true b x y = refl
either_row false b x y = refl

abbrev opened_of : Result (Unit {0}) Refusal → O.Opened → O.Opened
opened_of (Ok tt) r = r
opened_of (Err x) r = O.turned_away (number_of x)

first_is : (rs : Rows) (r : O.Opened) → O.first (numbered rs) r ≡ opened_of (checked rs) r
unfolding checked O.first
first_is [] r = refl
first_is (row ∷ rs) r = at row.0 (first_is rs r)
  where
    at : (b : Bool) → O.first (numbered rs) r ≡ opened_of (checked rs) r
        → cond b (O.turned_away (number_of row.1)) (O.first (numbered rs) r) ≡ opened_of (cond b (Err row.1) (checked rs)) r
    at true ih = refl
    at false ih = ih

-- ---- the rows of an opening

abbrev asked : Opening → ℕ
asked o = get_or (asked_of o.capacity) default_capacity

module _ (o : Opening) (b : Beside) (store table : ℕ) where
  abbrev token : Option Bytes
  token = given o.has_routing_token b.routing_token

  -- the rows behind that of the limits
  abbrev rows : Rows
  rows =
      open_rows (ltb store (store_size (max (asked o) (2 * o.limit + 1)) o.limit) || eqb table 0) (not (O.good_bucket b.bucket)) (ltb 1024 (length b.object))
      (M.over M.max_token token) (M.over M.max_handle (given (o.append && o.has_write_handle) b.write_handle))
      (M.over M.max_handle (given o.response.has_write_handle b.response_handle)) (M.over o.limit (given o.has_payload b.payload))
      (M.is_finalized (status_of o.response.write_status))

  abbrev all_rows : Rows
  all_rows = (bad_limits o.limit (asked o), refusal.Limits) ∷ rows

  abbrev session : R.Session
  session = O.open_session (opening_of o b store table)

  -- the spec that is dialled with, in either form
  abbrev form : Bool → S.AppendObjectSpecState
  form append =
      opened append b.bucket b.object (generation_of o.generation) (given o.has_write_handle b.write_handle) token
      (condition_of o.if_metageneration_match) (condition_of o.if_metageneration_not_match)

  form_is : (append : Bool)
      → (S.bucket_of (form append) ≡ b.bucket) × (S.object_of (form append) ≡ b.object) × (S.token_of (form append) ≡ token)
      × (S.handle_of (form append) ≡ given (append && o.has_write_handle) b.write_handle)
  form_is true = (refl, refl, refl, refl)
  form_is false = (refl, refl, refl, refl)

  opens_is : O.opens (opening_of o b store table) ≡ O.first (numbered all_rows) (O.opened session)
  unfolding O.opens O.first O.too_long opening_of
  opens_is = let f = form_is o.append in simp (f.0, f.1, f.2, f.3, either_row)

  rule_is : O.opens (opening_of o b store table) ≡ opened_of (checked all_rows) (O.opened session)
  rule_is = opens_is ∙ first_is all_rows (O.opened session)

  admits : (k : Result (Unit {0}) Refusal) → k ≡ checked all_rows → Admits o b store table k
  admits k e = record {
    refuses = λ x f. rw (sym e ∙ f) at rule_is;
    goes = λ f. rw (sym e ∙ f) at rule_is;
    admitted = λ f.
        let accepts : O.first (numbered all_rows) (O.opened session) ≡ O.opened session = first_is all_rows (O.opened session) ∙ rw (sym e ∙ f) in
        let t = (first_passed (numbered all_rows) session session accepts).0 in
        let l = within_limits o.limit (asked o) t.0 in
        let short : Bool = ltb store (store_size (max (asked o) (2 * o.limit + 1)) o.limit) in
        let slots : table ≡ 0 → ⊥ = eqb-false table 0 (or_no_right short _ t.1.0) in
        record {
          limit_some = l.0;
          limit_top = l.1;
          asked_top = l.2;
          store_lent = ltb-false store _ (or_no_left short _ t.1.0);
          table_lent = omega (arith, slots);
          bucket_in = good_length b.bucket t.1.1.0;
          object_in = ltb-false 1024 (length b.object) t.1.1.1.0;
          token_in = t.1.1.1.1.0;
          handle_in = t.1.1.1.1.1.0;
          response_in = t.1.1.1.1.1.1.0;
          payload_in = t.1.1.1.1.1.1.1.0;
        };
  }

-- the row of the limits, which stands before the capacity is reckoned
row_refuses : (b : Bool) (x : Refusal) (rs : Rows) → ◌≡◌ {A = Result (Unit {0}) Refusal} (cond b (Err refusal.Limits) (Ok tt)) (Err x) → Err x ≡ checked ((b, refusal.Limits) ∷ rs)
unfolding checked
row_refuses true x rs e = sym e
row_refuses false x rs e = no_go x (sym e)

pub row_passes : (b : Bool) → ◌≡◌ {A = Result (Unit {0}) Refusal} (cond b (Err refusal.Limits) (Ok tt)) (Ok tt) → b ≡ false
row_passes true e = no_go refusal.Limits e
row_passes false e = refl

pub limits_refuse : {o : Opening} {b : Beside} {store table : ℕ} {x : Refusal} → ◌≡◌ {A = Result (Unit {0}) Refusal} (cond (bad_limits o.limit (asked o)) (Err refusal.Limits) (Ok tt)) (Err x)
    → Admits o b store table (Err x)
limits_refuse {o} {b} {store} {table} {x} e = admits o b store table (Err x) (row_refuses (bad_limits o.limit (asked o)) x (rows o b store table) e)

pub rows_admit : {o : Opening} {b : Beside} {store table : ℕ} {k : Result (Unit {0}) Refusal} → bad_limits o.limit (asked o) ≡ false → k ≡ checked (rows o b store table)
    → Admits o b store table k
unfolding checked
rows_admit {o} {b} {store} {table} {k} h e = admits o b store table k (rw h e)
