-- The view and validity of a record with a part anew.
-- Assumes nothing.
use mathlib.Core.Path.{◌≡◌, refl, sym, ap, ◌∙◌}
use mathlib.Core.Bool.{Bool, true, false}
use mathlib.Core.List.{List, ◌∷◌}
use Prim.Native.Nat.{ℕ, ◌+◌, ◌≤◌}
use lib.Dec.{eqb}
use borrow.Author.Tests.{eqb-true}
use Rattle.rules.specs.Limits.{max_redirects}
use Rattle.rules.specs.Message.{Bytes}
use Rattle.rules.specs.Session as R
use Rattle.rules.specs.Notes.{released_in}
use Rattle.bidi_write.specs.Refusal.{Rows, checked}
use Rattle.bidi_write.specs.declared.Refusal.{Refusal}
use Rattle.std.specs.declared.result.Result.{Result}
use Rattle.std.specs.Prelude.{Ok, Err}
use Rattle.bidi_write.proofs.Rows.{first_false}
use Rattle.state.specs.View.{SpecFits}
use Rattle.connector.specs.declared.Connector.{Connector}
use Rattle.replay_buffer.specs.View.{words_of}
use Rattle.transport.specs.View.{phase_of, sent_of, lent_of, view, answer_of, released}
use Rattle.transport.specs.Valid.{marked, owed, CursorAt, Valid}
use Rattle.transport.specs.Parts.{set_phase, renewed}
use Rattle.transport.specs.declared.Answer.{Answer}
use Rattle.transport.specs.declared.Answer.TheVariants as answer
use Rattle.transport.specs.declared.Phase.{Phase}
use Rattle.transport.specs.declared.Phase.TheVariants as phase
use Rattle.transport.specs.declared.Sent.{Sent}
use Rattle.transport.specs.declared.Session.{Session}
use Rattle.rules.proofs.Tests.{clash}

pub view_phase : (p : Phase) (n : Sent) (s : Session) (store : Bytes) (table : List ℕ)
    → view (set_phase p n s) store table ≡ R.set_phase (phase_of p) (sent_of n) (view s store table)
unfolding view
view_phase p n s store table = refl

-- the bytes that an answer says were released are the rules'
pub released_is : (a : Result Answer Refusal) (out : Bytes) → released a ≡ released_in (answer_of a out)
released_is (Err x) out = refl
released_is (Ok (answer.Took n r)) out = refl
released_is (Ok (answer.Sends r)) out = refl
released_is (Ok (answer.Waits r n)) out = refl
released_is (Ok (answer.Completes c)) out = refl
released_is (Ok (answer.Attempt n)) out = refl
released_is (Ok answer.Accepted) out = refl
released_is (Ok answer.Done) out = refl
released_is (Ok (answer.Ends e)) out = refl

pub valid_phase : (p : Phase) (n : Sent) (s : Session) (store : Bytes) (table : List ℕ) → Valid s store table
    → (R.is_ended (phase_of p) ≡ false → s.worker.connector.redirects_followed ≤ max_redirects)
    → CursorAt p (words_of (lent_of s) s.worker.replay_buffer table) (owed s.worker)
    → Valid (set_phase p n s) store table
valid_phase p n s store table v f c = record { guarded = v.guarded; slots_in = v.slots_in; sound = v.sound; waiting_is = v.waiting_is; spec_fits = v.spec_fits; followed = f; cursor = c }

-- only a replay has a cursor
pub no_cursor : (p : Phase) (words : List ℕ) (owing : ℕ) → R.is_replay (phase_of p) ≡ false → CursorAt p words owing
no_cursor phase.Live words owing e = tt
no_cursor phase.Closing words owing e = tt
no_cursor phase.Connecting words owing e = tt
no_cursor (phase.Verdict r) words owing e = tt
no_cursor (phase.Replay c) words owing e = clash refl e
no_cursor (phase.Ended c) words owing e = tt

pub live_no_replay : (p : Phase) → R.is_live (phase_of p) ≡ true → R.is_replay (phase_of p) ≡ false
live_no_replay p e = ap (λ (n : ℕ). eqb n 4) (eqb-true (R.phase_number (phase_of p)) 1 e)

pub valid_renewed : (c : Connector) (mark : Bool) (p : Phase) (n : Sent) (s : Session) (store : Bytes) (table : List ℕ) → Valid s store table
    → SpecFits c.spec → (R.is_ended (phase_of p) ≡ false → c.redirects_followed ≤ max_redirects)
    → CursorAt p (words_of (lent_of s) s.worker.replay_buffer table) (s.worker.pending_requests.count + marked mark)
    → Valid (renewed c mark p n s) store table
valid_renewed c mark p n s store table v fits f at = record {
  guarded = v.guarded;
  sound = v.sound;
  waiting_is = v.waiting_is;
  slots_in = v.slots_in;
  spec_fits = fits;
  followed = f;
  cursor = at;
}

-- the code goes on: the session has not ended
pub runs : (s : Session) (n : ℕ) → n ≡ R.phase_number (phase_of s.phase) → (x : Refusal) (rs : Rows) → checked ((eqb n 6, x) ∷ rs) ≡ Ok tt
    → R.is_ended (phase_of s.phase) ≡ false
runs s n e x rs f = ap (λ (k : ℕ). eqb k 6) (sym e) ∙ first_false (eqb n 6) x rs f
