-- The waiting requests as a list: its length, its elements, and how many a response completes. Assumes nothing.
use mathlib.Core.Path.{◌≡◌, refl, sym, ◌∙◌}
use mathlib.Core.Bool.{Bool, true, false, not, cond, ◌&&◌}
use mathlib.Core.Option.{Option, none, some}
use mathlib.Core.List.{List, [], ◌∷◌, map}
use Prim.Native.Nat.{ℕ, zero, suc, ◌+◌, ◌<◌, ◌≤◌}
use native.Mathlib.Nat.{le_of_suc-le-suc}
use native.Mathlib.Numerals.{add-one}
use native.Mathlib.Omega.{arith}
use borrow.Author.Tests.{ltb-true, ltb-false, lt-leb, le-leb}
use lib.Dec.{leb, ltb, eqb, eqb-suc-zero}
use lib.IntN.{ℤ, pos, negsuc}
use lib.ListN.{length, take, drop, get_or, get_elem?, length-take, length-map, drop_of_length-le}
use lib.Seq.{length-take-le, drop-cons, get_or-take}
use lib.Signed.{le_z, lt_z}
use Rattle.rules.specs.Limits.{max_waiters}
use Rattle.rules.specs.Session as S
use Rattle.rules.specs.Respond.{wants, is_satisfied, satisfied}
use Rattle.worker.specs.View.{kind_of, request_for, pending_of, waiters_of, no_waiters}
use Rattle.worker.specs.declared.PendingKind.{PendingKind}
use Rattle.worker.specs.declared.PendingKind.TheVariants as kind
use Rattle.worker.specs.declared.PendingRequest.{PendingRequest}
use Rattle.worker.specs.declared.PendingRequests.{PendingRequests}

-- ---- any list

pub is_nil_is : {A : Type 0} (l : List A) → S.is_nil l ≡ eqb (length l) 0
is_nil_is [] = refl
is_nil_is (x ∷ l) = sym (eqb-suc-zero (length l))

pub map-drop : {A B : Type 0} (f : A → B) (k : ℕ) (l : List A) → map f (drop k l) ≡ drop k (map f l)
map-drop f zero l = refl
map-drop f (suc k) [] = refl
map-drop f (suc k) (x ∷ l) = map-drop f k l

-- an element of the mapped list, and none past its end
pub element_map : {A B : Type 0} (f : A → B) (l : List A) (i : ℕ) (d : A) → i < length l → get_elem? (map f l) i ≡ some (f (get_or l i d))
element_map f [] i d h = absurd (omega arith)
element_map f (x ∷ l) zero d h = refl
element_map f (x ∷ l) (suc i) d h = element_map f l i d (le_of_suc-le-suc h)

pub element_past : {A : Type 0} (l : List A) (i : ℕ) → length l ≤ i → get_elem? l i ≡ none
element_past [] i h = refl
element_past (x ∷ l) zero h = absurd (omega arith)
element_past (x ∷ l) (suc i) h = element_past l i (le_of_suc-le-suc h)

-- ---- the waiting requests

pub none_waits : waiters_of no_waiters ≡ []
unfolding waiters_of no_waiters
none_waits = refl

pub none-counted : no_waiters.count ≡ 0
unfolding no_waiters
none-counted = refl

-- an array has its length: a caller has `array` from the code's types, or cites `len`
module _ (q : PendingRequests) (array : length q.requests ≡ max_waiters) (fits : q.count ≤ max_waiters) where
  pub length-waiters : length (waiters_of q) ≡ q.count
  unfolding waiters_of
  length-waiters = length-map (take q.count q.requests) pending_of ∙ length-take-le q.count q.requests (omega arith)

-- ---- a response

leb_is : (a b : ℕ) → leb a b ≡ not (ltb b a)
leb_is a b = go (ltb b a) refl
  where
    go : (t : Bool) → ltb b a ≡ t → leb a b ≡ not t
    go true e = lt-leb a b (ltb-true b a e)
    go false e = le-leb a b (ltb-false b a e)

pub le_z_is : (a b : ℤ) → le_z a b ≡ not (lt_z b a)
le_z_is (pos a) (pos b) = leb_is a b
le_z_is (pos a) (negsuc b) = refl
le_z_is (negsuc a) (pos b) = refl
le_z_is (negsuc a) (negsuc b) = leb_is b a

request_for-at : (k : PendingKind) (at : ℤ) (sum : Option ℕ) → (request_for k at sum).write_offset ≡ at
request_for-at kind.Flush at sum = refl
request_for-at kind.Finalize at sum = refl

-- a request whose offset the size does not reach, and one whose offset it reaches
module _ (n : ℤ) (finalised : Bool) (p : PendingRequest) where
  pub satisfied_is : is_satisfied n finalised (pending_of p) ≡ (not (lt_z n p.write_offset.0) && wants (kind_of p.kind) finalised)
  unfolding is_satisfied
  satisfied_is = rw (request_for-at p.kind, le_z_is)

  pub unreached : lt_z n p.write_offset.0 ≡ true → is_satisfied n finalised (pending_of p) ≡ false
  unreached e = satisfied_is ∙ rw e

  pub reached : (k : PendingKind) → p.kind ≡ k → lt_z n p.write_offset.0 ≡ false → is_satisfied n finalised (pending_of p) ≡ wants (kind_of k) finalised
  reached k h e = satisfied_is ∙ rw (e, h)

-- how many of the requests from index k on, of the first c of an array, a response completes
abbrev pub completed : ℤ → Bool → List PendingRequest → ℕ → ℕ → ℕ
completed n finalised l c k = satisfied n finalised (map pending_of (drop k (take c l)))

module _ (n : ℤ) (finalised : Bool) (l : List PendingRequest) (c k : ℕ) where
  pub completed-none : c ≤ k → completed n finalised l c k ≡ 0
  unfolding satisfied
  completed-none h =
      let g : length (take c l) ≤ k = simp length-take (omega arith) in
      rw (drop_of_length-le (take c l) g)

  module _ (d : PendingRequest) (h : k < c) (b : c ≤ length l) where
    front : completed n finalised l c k ≡ cond (is_satisfied n finalised (pending_of (get_or l k d))) (suc (completed n finalised l c (suc k))) 0
    unfolding satisfied
    front =
        let g : k < length (take c l) = simp length-take (omega arith) in
        rw (drop-cons (take c l) k d g, get_or-take c l k d h)

    pub completed-more : is_satisfied n finalised (pending_of (get_or l k d)) ≡ true → completed n finalised l c k ≡ suc (completed n finalised l c (k + 1))
    completed-more e = front ∙ rw (e, add-one)

    pub completed_stops : is_satisfied n finalised (pending_of (get_or l k d)) ≡ false → completed n finalised l c k ≡ 0
    completed_stops e = front ∙ rw e
