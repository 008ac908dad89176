-- The plan is what a session shows: of the step rules, of those without rows 8 and 9, and of any calls that keep to the step rules.
use mathlib.Core.Path.{◌≡◌, refl, sym, ap, ◌∙◌, subst}
use mathlib.Core.Bool.{true}
use mathlib.Core.Option.{Option, some}
use mathlib.Core.List.{List, [], ◌∷◌}
use Prim.Native.Nat.{ℕ, zero, suc, ◌-◌, ◌^◌, ◌≤◌, ◌<◌}
use native.Mathlib.Omega.{arith}
use lib.ListN.{length}
use borrow.Author.Tests.{ne_eqb, le-ltb}
use Rattle.protobuf_format.specs.Reading.{◌>>=◌}
use Rattle.rules.specs.Limits.{max_chunk, store_size}
use Rattle.rules.specs.Message.{Bytes, is_given}
use Rattle.rules.specs.Session.{Session, Call, Answer, Result, answers, bytes_of, stored}
use Rattle.rules.specs.Step.{step}
use Rattle.rules.specs.Opening.{Opening, opened, opens, open_size, open_chunks, capacity_of, good_bucket, too_long, open_session, first}
use Rattle.rules.specs.Notes.{accepted}
use Rattle.rules.specs.Program.{itself, Steps}
use Rattle.rules.proofs.Accepted as opening
use Rattle.plan_rules.specs.Unbounded.{unbounded}
use Rattle.plan_rules.specs.Plan.{Driven, begins, shown, remains, after, call_for, drives, most, plain_opening, planned}
use Rattle.plan_rules.specs.Claims.{Plain, ShowsPlanned, SessionShows, Freely, UnboundedShows, SameRun, sum_of, AlwaysPossible}
use Rattle.plan_rules.proofs.Unbounded.{accepted-same}
use Rattle.plan_rules.specs.Counting.{nothing_yet, counted_all}
use Rattle.plan_rules.proofs.Counting.{all_total}
use Rattle.plan_rules.proofs.Calls.{Fits}
use Rattle.plan_rules.proofs.Drives.{drives-counted, driven_counted, went, Came, came}

-- ---- openings

pub open_fits : (o : Opening) (s : Session) → opens o ≡ opened s → Plain o s → Fits o.limit (begins s) nothing_yet
unfolding open_session stored
open_fits o s e plain =
    let a : opening.Accepted o s = opening.accepted o s e in
    let is : open_session o ≡ s = a.is in
    record {
      limit_is = sym (ap Session.limit is);
      live_is = sym (ap Session.phase is);
      open_is = sym (ap (λ (t : Session). t.worker.finalized) is);
      offset_is = plain.at_zero;
      offset_most = omega arith;
      held_most = a.positive;
      shown_is = sym (ap (λ (t : Session). shown (begins t)) is) ∙ ap (λ (b : Option Bytes). record {
        chunks = length (open_chunks b (open_size o));
        stored = length (bytes_of (open_chunks b (open_size o)));
        held = 0;
        appends = 0;
        flushes = 0;
      }) plain.bare;
    }

-- the opening that a plan is made with is accepted, and it is such a one
pub plain-accepted : (limit : ℕ) → 0 < limit → limit ≤ max_chunk → opens (plain_opening limit) ≡ opened (open_session (plain_opening limit))
unfolding opens first good_bucket too_long
plain-accepted limit z l =
    let o : Opening = plain_opening limit in
    let size : ℕ = store_size (capacity_of o) limit in
    rw (ne_eqb limit 0 (λ e. absurd (omega arith)), le-ltb max_chunk limit l, le-ltb size size (omega arith)) refl

pub plain_is : (limit : ℕ) → Plain (plain_opening limit) (open_session (plain_opening limit))
unfolding open_session
plain_is limit = record { at_zero = refl; bare = refl }

-- ---- what is planned is what is counted

pub planned-counted : (limit : ℕ) (ls : List ℕ) → 0 < limit → limit ≤ max_chunk → (counted_all limit ls nothing_yet).stored ≤ 2 ^ 63 - 1
    → planned limit ls ≡ some (counted_all limit ls nothing_yet)
unfolding planned
planned-counted limit ls z l m =
    let s : Session = open_session (plain_opening limit) in
    drives-counted limit (most ls) ls (begins s) nothing_yet (open_fits (plain_opening limit) s (plain-accepted limit z l) (plain_is limit)) m (omega arith)

stored-most : (limit : ℕ) (ls : List ℕ) → sum_of ls ≤ 2 ^ 63 - 1 → (counted_all limit ls nothing_yet).stored ≤ 2 ^ 63 - 1
stored-most limit ls l = omega (arith, all_total limit ls nothing_yet)

pub always_possible : AlwaysPossible
always_possible o s e plain ls l =
    let a : opening.Accepted o s = opening.accepted o s e in
    let p : planned o.limit ls ≡ some (counted_all o.limit ls nothing_yet)
    = planned-counted o.limit ls a.positive a.limit_most (stored-most o.limit ls l) in
    record {
      there = ap is_given p;
      any = drives-counted o.limit (most ls) ls (begins s) nothing_yet (open_fits o s e plain) (stored-most o.limit ls l) (omega arith) ∙ sym p;
    }

-- ---- by any calls that are made for the list. Valid: what an accepted opening gives and each call keeps

module _ {S : Type 0} (view : S → Session) (Does : Call → S → Answer → S → Type 0) (Begins : Opening → S → Type 0) (Valid : S → Type 0)
    (begun : (o : Opening) (s : S) → Begins o s → Valid s × (opens o ≡ opened (view s))) where
  freely_shows : ((c : Call) (s : S) (a : Answer) (s' : S) → Does c s a s' → Valid s → Valid s' × (accepted a ≡ true → answers a (view s') ≡ unbounded c (view s)))
      → ShowsPlanned view Does Begins
  freely_shows keeps o s b plain ts a ls d g =
      let e : opens o ≡ opened (view s) = (begun o s b).1 in
      let k : opening.Accepted o (view s) = opening.accepted o (view s) e in
      let f : Fits o.limit d (counted_all o.limit ls nothing_yet)
      = driven_counted view Does Valid keeps o.limit ts ls s (begins (view s)) d nothing_yet (begun o s b).0 refl (open_fits o (view s) e plain) a g in
      planned-counted o.limit ls k.positive k.limit_most f.offset_most ∙ ap some (sym f.shown_is)

  pub program_shows : ((c : Call) (s : S) (a : Answer) (s' : S) → Does c s a s' → Valid s → Valid s' × (answers a (view s') ≡ step c (view s)))
      → ShowsPlanned view Does Begins
  program_shows keeps =
      freely_shows (λ c s a s' does v.
      let k : Valid s' × (answers a (view s') ≡ step c (view s)) = keeps c s a s' does v in
      (k.0, λ e. k.1 ∙ sym (accepted-same c (view s) (subst (λ (r : Result). accepted r.answer ≡ true) k.1 e))))

pub session-shows : SessionShows
session-shows = program_shows itself Steps (λ o s. opens o ≡ opened s) (λ s. Unit {0}) (λ o s e. (tt, e)) (λ c s a s' e v. (tt, e))

pub unbounded-shows : UnboundedShows
unbounded-shows = freely_shows itself Freely (λ o s. opens o ≡ opened s) (λ s. Unit {0}) (λ o s e. (tt, e)) (λ c s a s' e v. (tt, λ k. e))

-- ---- by the calls that a plan makes

pub same_run : SameRun
unfolding drives
same_run zero [] d e g = g
same_run zero (n ∷ ls) d e g = g
same_run (suc k) [] d e g = g
same_run (suc k) (n ∷ ls) d e g =
    let c : Call = call_for d.session.limit n in
    let r : Result = step c d.session in
    let next : List ℕ → Option Driven = λ rest. drives step k rest (after n r d) in
    let m : Came (remains n ls r.answer) next e = came (remains n ls r.answer) next e g in
    let same : unbounded c d.session ≡ r = accepted-same c d.session (went n ls r.answer m.from m.is) in
    ap (λ (x : Result). remains n ls x.answer >>= (λ rest. drives unbounded k rest (after n x d))) same
    ∙ ap (λ (x : Option (List ℕ)). x >>= (λ rest. drives unbounded k rest (after n r d))) m.is
    ∙ same_run k m.from (after n r d) e m.gives
