-- Plans of given lists, computed, and runs that show that the claims' hypotheses can be met.
use mathlib.Core.Path.{◌≡◌, refl, subst}
use mathlib.Core.Option.{map, none, some, some-injective}
use mathlib.Core.List.{List, [], ◌∷◌}
use Prim.Native.Nat.{ℕ}
use native.Mathlib.Omega.{arith}
use lib.IntN.{pos}
use Rattle.rules.specs.Message.{Bytes}
use Rattle.rules.specs.Session.{Session, Call, append, flush}
use Rattle.rules.specs.Step.{step}
use Rattle.rules.specs.Opening.{Opening, opened, opens, open_session}
use Rattle.rules.specs.Program.{itself, Steps}
use Rattle.rules.specs.Calls.{CallTurn, AllDidCall}
use Rattle.rules.specs.Bench.{sized, opening}
use Rattle.rules.proofs.Evidence.Computed.{computed}
use Rattle.plan_rules.specs.Unbounded.{unbounded}
use Rattle.plan_rules.specs.Plan.{Plan, begins, shown, drives, most, planned, refuses, needs, plans}
use Rattle.plan_rules.specs.Claims.{Plain, driven_by, Enough, MadeFor}
use Rattle.plan_rules.specs.Counting.{plan}

unfoldable plan_computed : Unit {0}
unfolding computed unbounded drives planned plans
plan_computed = tt

-- ---- plans: C, the list, and what it needs

pub record Row : Type 0 where
  pub limit : ℕ
  pub lengths : List ℕ
  pub is : Plan

abbrev row : ℕ → List ℕ → Plan → Row
row limit ls p = record { limit = limit; lengths = ls; is = p }

abbrev pub table : List Row
table =
    row 4 [] (plan 0 0 0 0 0)
    -- a flush of nothing only waits
    ∷ row 4 (0 ∷ []) (plan 0 0 0 0 1)
    -- 3 are held; 6 more make 9, two chunks and one held; a flush cuts it and waits; the next only waits; 8 are two chunks
    ∷ row 4 (3 ∷ 6 ∷ 0 ∷ 0 ∷ 8 ∷ []) (plan 5 17 0 6 3)
    -- up to a chunk, a chunk, a byte more
    ∷ row 4 (3 ∷ []) (plan 0 0 3 1 0)
    ∷ row 4 (4 ∷ []) (plan 1 4 0 1 0)
    ∷ row 4 (5 ∷ []) (plan 1 4 1 2 0)
    -- held bytes that an append fills up, exactly and with one over; P1
    ∷ row 4 (3 ∷ 1 ∷ []) (plan 1 4 0 2 0)
    ∷ row 4 (3 ∷ 2 ∷ []) (plan 1 4 1 3 0)
    -- entries that only hold, then a flush that cuts them all
    ∷ row 4 (1 ∷ 1 ∷ 1 ∷ 0 ∷ []) (plan 1 3 0 3 2)
    -- a flush in the middle of a chunk leaves the next append a whole one
    ∷ row 4 (2 ∷ 0 ∷ 4 ∷ 0 ∷ []) (plan 2 6 0 2 3)
    -- every byte is a chunk
    ∷ row 1 (3 ∷ 0 ∷ []) (plan 3 3 0 3 1)
    -- more flushes than waiters may wait, more chunks than the opening has slots
    ∷ row 2 (1 ∷ 0 ∷ 1 ∷ 0 ∷ 1 ∷ 0 ∷ 1 ∷ 0 ∷ 1 ∷ 0 ∷ 1 ∷ 0 ∷ 1 ∷ 0 ∷ 1 ∷ 0 ∷ 1 ∷ 0 ∷ 1 ∷ 0 ∷ 1 ∷ 0 ∷ 1 ∷ 0 ∷ 1 ∷ 0 ∷ 1 ∷ 0 ∷ 1 ∷ 0 ∷ 1 ∷ 0 ∷ 1 ∷ 0 ∷ []) (plan 17 17 0 17 34)
    ∷ []

abbrev AllAre : List Row → Type 0
AllAre [] = Unit {0}
AllAre (r ∷ rs) = (planned r.limit r.lengths ≡ some r.is) × AllAre rs

pub plans_are : AllAre table
unfolding plan_computed
plans_are = (refl, (refl, (refl, (refl, (refl, (refl, (refl, (refl, (refl, (refl, (refl, (refl, tt))))))))))))

-- 1 before 16 is the order of `plans`; here each with a list in range
pub limit_0 : plans 0 (1 ∷ []) ≡ some (refuses 1)
unfolding plan_computed
limit_0 = refl

pub limit_most : plans 2097152 (1 ∷ []) ≡ some (needs (plan 0 0 1 1 0))
unfolding plan_computed
limit_most = refl

pub limit_above : plans 2097153 (1 ∷ []) ≡ some (refuses 1)
unfolding plan_computed
limit_above = refl

-- ---- the hypotheses can be met: the list of five entries, driven through a session by its own step rules, with bytes and out buffers as they come

abbrev pub five_opening : (capacity slots : ℕ) → Opening
five_opening capacity slots = record {
  limit = 4;
  asked = some capacity;
  store_length = 46;
  slots = slots;
  spec = (opening 4 0 (pos 0) none).spec;
  response = sized (pos 0);
  checksum = none;
  payload = none;
  last_persisted_size = pos 0;
}

abbrev pub five : List ℕ
five = 3 ∷ 6 ∷ 0 ∷ 0 ∷ 8 ∷ []

abbrev abc : Bytes
abc = 97 ∷ 98 ∷ 99 ∷ []

abbrev calls : List Call
calls =
    append abc 0 ∷ append (1 ∷ 2 ∷ 3 ∷ 4 ∷ 5 ∷ 6 ∷ []) 4 ∷ append (2 ∷ 3 ∷ 4 ∷ 5 ∷ 6 ∷ []) 5 ∷ append (6 ∷ []) 0 ∷ flush 4 ∷ flush 0 ∷ flush 9
    ∷ append (8 ∷ 7 ∷ 6 ∷ 5 ∷ 4 ∷ 3 ∷ 2 ∷ 1 ∷ []) 4 ∷ append (4 ∷ 3 ∷ 2 ∷ 1 ∷ []) 4 ∷ []

abbrev turns : List Call → Session → List (CallTurn itself Steps)
turns [] s = []
turns (c ∷ cs) s = let r = step c s in record { call = c; answer = r.answer; left = r.session } ∷ turns cs r.session

all_did : (cs : List Call) (s : Session) → AllDidCall itself Steps (turns cs s) s
all_did [] s = tt
all_did (c ∷ cs) s = (refl, all_did cs (step c s).session)

abbrev five_session : Session
five_session = open_session (five_opening 40 5)

pub five-opens : opens (five_opening 40 5) ≡ opened five_session
unfolding computed
five-opens = refl

pub five-plain : Plain (five_opening 40 5) five_session
unfolding computed
five-plain = record { at_zero = refl; bare = refl }

pub five_did : AllDidCall itself Steps (turns calls five_session) five_session
five_did = all_did calls five_session

pub five_driven : map shown (driven_by itself Steps (turns calls five_session) five (begins five_session)) ≡ some (plan 5 17 0 6 3)
unfolding plan_computed
five_driven = refl

-- ---- without rows 8 and 9: a session with too few slots, and one with too small a store, show the same

pub four-slots-refused : drives step (most five) five (begins (open_session (five_opening 40 4))) ≡ none
unfolding plan_computed
four-slots-refused = refl

pub four-slots-shown : map shown (drives unbounded (most five) five (begins (open_session (five_opening 40 4)))) ≡ some (plan 5 17 0 6 3)
unfolding plan_computed
four-slots-shown = refl

pub store_refused : drives step (most five) five (begins (open_session (five_opening 9 5))) ≡ none
unfolding plan_computed
store_refused = refl

pub store_shown : map shown (drives unbounded (most five) five (begins (open_session (five_opening 9 5)))) ≡ some (plan 5 17 0 6 3)
unfolding plan_computed
store_shown = refl

-- ---- that enough is lent can be met too: an append of five bytes, in two calls

abbrev first : Call
first = append (1 ∷ 2 ∷ 3 ∷ 4 ∷ 5 ∷ []) 4

abbrev second : Call
second = append (5 ∷ []) 4

pub twice_enough : Enough five_session (5 ∷ []) (plan 1 4 1 2 0)
unfolding computed
twice_enough = record { capacity_above = omega arith; slots_enough = omega arith; waiters_enough = omega arith }

pub twice_made : MadeFor itself Steps 4 (turns (first ∷ second ∷ []) five_session) (5 ∷ [])
unfolding plan_computed
twice_made = (
  refl,
  omega arith,
  λ rest e. subst (MadeFor itself Steps 4 (turns (second ∷ []) (step first five_session).session)) (some-injective (1 ∷ []) rest e) (refl, omega arith, λ rest e. tt),
)
