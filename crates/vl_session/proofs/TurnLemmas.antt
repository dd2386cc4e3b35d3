-- One turn, and one turn more.
use Rattle.std.proofs.Common.{◌≡◌, ℕ, suc, ◌+◌, ◌<◌, Bool, List, [], ◌∷◌, ◌++◌, length, take, refl, ap, sym, subst, ◌∙◌}
use Rattle.std.proofs.Common.{arith, append_assoc, append-nil, pos, unsigned_abs, ℤ}
use Rattle.std.specs.Prelude.{None, Option, Some}
use Rattle.std.specs.List.{AllZip}
use Rattle.vl_io.specs.Bytes.{Appends}
use Rattle.vl_io.specs.Change.{IsCut}
use Rattle.vl_io.specs.Faults.{Rose}
use Rattle.vl_io.specs.Moments.{Tells}
use Rattle.http_in.specs.Message.{Asked}
use Rattle.vl_session.specs.Reply.{IsServed}
use Rattle.log_desk.specs.Seen.{Caller, Seen}
use Rattle.vl_session.specs.Seen.{Effect}
use Rattle.vl_session.specs.Sent.{Serves}
use Rattle.vl_session.specs.Turns.{AreTurns, GaveMoments, IsDone, IsTurn, Turn, closes_after, replies_of}
use Rattle.vl_session.specs.declared.report.Done.{Done}

-- the turn that a request was served in
abbrev pub turn_of : Asked → ℕ → Effect → Seen → List ℕ → Turn
turn_of asked now effect seen reply =
    record { asked = asked; now = now; effect = effect; seen = seen; reply = reply }

pub served : (caller : Caller) (asked : Asked) (closes : Bool) (now : ℕ) (old new : Seen) (effect : Effect)
    (reply : List ℕ) (dones dones_new : List Done) (done : Done)
    → IsServed caller asked closes now old new effect reply
    → closes ≡ closes_after (length dones) asked → done.now ≡ pos now → done.front ≡ length new.history
    → done.settled ≡ new.settled → dones_new ≡ dones ++ done ∷ []
    → Serves caller asked old new dones dones_new (turn_of asked now effect new reply)
served caller asked closes now old new effect reply dones dones_new done is same at front settled noted = record {
  asked_is = refl;
  served = subst (λ b. IsServed caller asked b now old new effect reply) same is;
  seen = refl;
  done = done;
  shown = record { now = at; front = front; settled = settled };
  noted = noted;
}

pub serves_as : (caller other : Caller) (asked : Asked) (old new : Seen) (dones dones_new : List Done) (turn : Turn)
    → caller ≡ other → Serves caller asked old new dones dones_new turn → Serves other asked old new dones dones_new turn
serves_as caller other asked old new dones dones_new turn same s =
    subst (λ m. Serves m asked old new dones dones_new turn) same s

pub told_at : (a b : Option (List ℕ)) (now : ℤ) (turn : Turn) → turn.now ≡ unsigned_abs now → Tells a b now
    → Tells a b (pos turn.now)
told_at a None now turn at t = tt
told_at None (Some new) now turn at t = t
told_at (Some old) (Some new) now turn at t = t ∙ ap (λ (n : ℕ). old ++ n ∷ []) (sym at)

-- a proper prefix of the reply was written
pub reply_cut : (w0 w1 : Option (List ℕ)) (k0 k1 : ℕ) (turn : Turn) (text : List ℕ) → turn.reply ≡ text
    → (n : ℕ) × (n < length text) × Appends w0 w1 (take n text) → Rose k0 k1
    → IsCut (record { bytes_before = w0; bytes_after = w1; faults_before = k0; faults_after = k1 }) [] turn.reply
reply_cut w0 w1 k0 k1 turn text is e rose =
    subst (λ l. IsCut (record { bytes_before = w0; bytes_after = w1; faults_before = k0; faults_after = k1 }) [] l)
    (sym is) (record { len = e.0; proper = e.1; took = e.2; failed = rose })

-- the reply was written
pub reply_took : (w0 w1 : Option (List ℕ)) (turn : Turn) (text : List ℕ) → turn.reply ≡ text → Appends w0 w1 text
    → Appends w0 w1 turn.reply
reply_took w0 w1 turn text is w = subst (Appends w0 w1) (sym is) w

pub last_is : (turn : Turn) (asked : Asked) (t : Bool) → turn.asked ≡ asked → asked.last ≡ t → turn.asked.last ≡ t
last_is turn asked t is last = ap (λ (a : Asked). a.last) is ∙ last

-- ---- one turn more

pub AreTurns-more : (caller : Caller) (before : ℕ) (old mid new : Seen) (turns : List Turn) (turn : Turn)
    → AreTurns caller before old turns mid → IsTurn caller (before + length turns) mid turn → new ≡ turn.seen
    → AreTurns caller before old (turns ++ turn ∷ []) new
AreTurns-more caller before old mid new [] turn a t e =
    let none : before + length {A = Turn} [] ≡ before = omega arith in
    (subst (λ n. IsTurn caller n old turn) none (subst (λ s. IsTurn caller (before + length {A = Turn} []) s turn) a t), e)
AreTurns-more caller before old mid new (first ∷ later) turn a t e =
    let count : before + length (first ∷ later) ≡ suc before + length later = omega arith in (
      a.0,
      AreTurns-more caller (suc before) first.seen mid new later turn a.1
          (subst (λ n. IsTurn caller n mid turn) count t)
          e,
    )

pub done-more : (turns : List Turn) (dones : List Done) (turn : Turn) (done : Done) → AllZip IsDone turns dones
    → IsDone turn done → AllZip IsDone (turns ++ turn ∷ []) (dones ++ done ∷ [])
done-more [] [] turn done a b = (b, tt)
done-more [] (d ∷ ds) turn done a b = absurd a
done-more (t ∷ ts) [] turn done a b = absurd a
done-more (t ∷ ts) (d ∷ ds) turn done a b = (a.0, done-more ts ds turn done a.1 b)

pub done-length : (turns : List Turn) (dones : List Done) → AllZip IsDone turns dones → length turns ≡ length dones
done-length [] [] a = refl
done-length [] (d ∷ ds) a = absurd a
done-length (t ∷ ts) [] a = absurd a
done-length (t ∷ ts) (d ∷ ds) a = ap suc (done-length ts ds a.1)

pub told-more : (a b c : Option (List ℕ)) (moments : List ℕ) (t : ℕ) → GaveMoments a b moments → Tells b c (pos t)
    → GaveMoments a c (moments ++ t ∷ [])
told-more None None None moments t p q = tt
told-more None None (Some z) moments t p q = absurd q
told-more None (Some y) c moments t p q = absurd p
told-more (Some x) None None moments t p q = tt
told-more (Some x) None (Some z) moments t p q = absurd q
told-more (Some x) (Some y) None moments t p q = tt
told-more (Some x) (Some y) (Some z) moments t p q =
    q ∙ ap (λ l. l ++ t ∷ []) p ∙ append_assoc x moments (t ∷ [])

pub told-none : (a : Option (List ℕ)) → GaveMoments a a []
told-none None = tt
told-none (Some x) = sym (append-nil x)

pub replies-more : (turns : List Turn) (turn : Turn)
    → replies_of (turns ++ turn ∷ []) ≡ replies_of turns ++ turn.reply
replies-more [] turn = append-nil turn.reply
replies-more (t ∷ ts) turn =
    ap (λ l. t.reply ++ l) (replies-more ts turn) ∙ sym (append_assoc t.reply (replies_of ts) turn.reply)
