-- A session that has not ended, how it goes on, and how it ends.
use Rattle.std.proofs.Common.{◌≡◌, ℕ, ◌<◌, ◌≤◌, false, List, [], ◌∷◌, ◌++◌, length, take, refl, ap}
use Rattle.std.proofs.Common.{sym, subst, ◌∙◌, inl, inr, arith, append_assoc, length-append, pos}
use Rattle.std.specs.Prelude.{Option}
use Rattle.std.specs.List.{AllZip}
use Rattle.std.proofs.lemmas.List.{map-append}
use Rattle.vl_io.specs.Bytes.{Appends, Consumes}
use Rattle.vl_io.specs.Change.{Change, IsCut, Took}
use Rattle.vl_io.specs.Moments.{Tells}
use Rattle.vl_io.proofs.Laws.{Appends-nil, Appends-trans, Consumes-nil, Consumes-trans, Rose-earlier}
use Rattle.http_in.specs.Message.{Asked}
use Rattle.http_in.specs.Reading.{FindsRequest, Holds, Reading}
use Rattle.http_in.specs.Requests.{AreRequests, asked_to_close}
use Rattle.http_in.proofs.RequestsLemmas.{AreRequests-later, AreRequests-more, asked_to_close-more}
use Rattle.log_desk.specs.Seen.{Caller, Seen}
use Rattle.vl_session.specs.Sent.{EndsReading, EndsTurn, Reaches, Serves}
use Rattle.vl_session.specs.Session.{Ends, IsServing, IsSession, StaysOpen, connection, fault_bytes}
use Rattle.vl_session.specs.Turns.{GaveMoments, IsDone, IsTurn, Turn, asked_in, moments_of, replies_of}
use Rattle.vl_session.specs.Turns.{turn_limit}
use Rattle.vl_session.specs.declared.report.Done.{Done}
use Rattle.vl_session.specs.declared.report.End.{End}
use Rattle.vl_session.specs.declared.report.End.TheVariants as ends
use Rattle.vl_session.proofs.TurnLemmas.{AreTurns-more, done-length, done-more, replies-more, told-more, told-none}

abbrev pub change : Option (List ℕ) → Option (List ℕ) → ℕ → ℕ → Change
change old new before after =
    record { bytes_before = old; bytes_after = new; faults_before = before; faults_after = after }

-- the session stands between two requests, and none asked to close
pub record Going (caller : Caller) (first last : Seen) (source sink : Change) (t0 t1 : Option (List ℕ))
    (dones : List Done) (reader : Reading) : Type 0 where
  pub turns : List Turn
  pub ahead : List ℕ
  pub serving : IsServing caller first last source t0 t1 turns ahead
  pub done : AllZip IsDone turns dones
  pub holds : Holds (length serving.used) ahead reader.held
  pub stays : asked_to_close (asked_in turns) ≡ false
  pub written : Took sink (replies_of turns)

-- ---- the source, the requests and the turns

serving_read : (caller : Caller) (first last : Seen) (l0 l1 l2 : Option (List ℕ)) (s0 s1 s2 : ℕ)
    (t0 t1 : Option (List ℕ)) (turns : List Turn) (ahead piece : List ℕ)
    → IsServing caller first last (change l0 l1 s0 s1) t0 t1 turns ahead → Consumes l1 l2 piece
    → IsServing caller first last (change l0 l2 s0 s2) t0 t1 turns (ahead ++ piece)
serving_read caller first last l0 l1 l2 s0 s1 s2 t0 t1 turns ahead piece s p =
    let whole : (s.used ++ ahead) ++ piece ≡ s.used ++ (ahead ++ piece) = append_assoc s.used ahead piece in
    record {
      used = s.used;
      gave = subst (Consumes l0 l2) whole (Consumes-trans l0 l1 l2 (s.used ++ ahead) piece s.gave p);
      requests = subst (λ l. AreRequests l (asked_in turns) (ahead ++ piece)) whole
          (AreRequests-later (s.used ++ ahead) ahead piece (asked_in turns) s.requests);
      ran = s.ran;
      told = s.told;
    }

-- a request was served, which the bytes ahead begin with
serving_turn : (caller : Caller) (first mid new : Seen) (source : Change) (t0 t1 t2 : Option (List ℕ))
    (dones dones_new : List Done) (turns : List Turn) (turn : Turn) (asked : Asked) (ahead : List ℕ) (reader : Reading)
    → asked_to_close (asked_in turns) ≡ false → length turns ≡ length dones
    → (s : IsServing caller first mid source t0 t1 turns ahead)
    → (f : FindsRequest (length s.used) ahead reader.held asked) → Serves caller asked mid new dones dones_new turn
    → Tells t1 t2 (pos turn.now) → IsServing caller first new source t0 t2 (turns ++ turn ∷ []) f.rest
serving_turn caller first mid new source t0 t1 t2 dones dones_new turns turn asked ahead reader stays count s f v tells =
    let whole : s.used ++ ahead ≡ (s.used ++ f.used) ++ f.rest =
    ap (λ l. s.used ++ l) f.whole ∙ sym (append_assoc s.used f.used f.rest) in
    let list : asked_in turns ++ asked ∷ [] ≡ asked_in (turns ++ turn ∷ []) =
    ap (λ a. asked_in turns ++ a ∷ []) (sym v.asked_is)
    ∙ sym (map-append (λ (t : Turn). t.asked) turns (turn ∷ [])) in
    record {
      used = s.used ++ f.used;
      gave = subst (Consumes source.bytes_before source.bytes_after) whole s.gave;
      requests = subst (λ l. AreRequests l (asked_in (turns ++ turn ∷ [])) f.rest) whole
          (subst (λ l. AreRequests (s.used ++ ahead) l f.rest) list
          (AreRequests-more (s.used ++ ahead) ahead f.rest (asked_in turns) asked stays s.requests f.begins));
      ran = AreTurns-more caller 0 first mid new turns turn s.ran
          (subst (λ n. IsTurn caller n mid turn) (omega (arith, count)) v.served) v.seen;
      told = subst (GaveMoments t0 t2) (sym (map-append (λ (t : Turn). t.now) turns (turn ∷ [])))
          (told-more t0 t1 t2 (moments_of turns) turn.now s.told tells);
    }

closes_more : (turns : List Turn) (turn : Turn) → asked_to_close (asked_in (turns ++ turn ∷ [])) ≡ turn.asked.last
closes_more turns turn =
    ap asked_to_close (map-append (λ (t : Turn). t.asked) turns (turn ∷ []))
    ∙ asked_to_close-more (asked_in turns) turn.asked

took_more : (w0 w1 w2 : Option (List ℕ)) (turns : List Turn) (turn : Turn) → Appends w0 w1 (replies_of turns)
    → Appends w1 w2 turn.reply → Appends w0 w2 (replies_of (turns ++ turn ∷ []))
took_more w0 w1 w2 turns turn p q =
    subst (Appends w0 w2) (sym (replies-more turns turn)) (Appends-trans w0 w1 w2 (replies_of turns) turn.reply p q)

-- a text was cut after another
cut_more : (w0 w1 w2 : Option (List ℕ)) (k0 k1 k2 : ℕ) (sure text : List ℕ) → k0 ≤ k1 → Appends w0 w1 sure
    → IsCut (change w1 w2 k1 k2) [] text → IsCut (change w0 w2 k0 k2) sure text
cut_more w0 w1 w2 k0 k1 k2 sure text q w c = record {
  len = c.len;
  proper = c.proper;
  took = Appends-trans w0 w1 w2 sure (take c.len text) w c.took;
  failed = Rose-earlier k0 k1 k2 q c.failed;
}

-- ---- it goes on

pub going_first : (caller : Caller) (first : Seen) (l t w : Option (List ℕ)) (s k : ℕ) (dones : List Done)
    (reader : Reading) → dones ≡ [] → Holds 0 [] reader.held
    → Going caller first first (change l l s s) (change w w k k) t t dones reader
going_first caller first l t w s k dones reader none holds = record {
  turns = [];
  ahead = [];
  serving = record { used = []; gave = Consumes-nil l; requests = refl; ran = refl; told = told-none t };
  done = rw none tt;
  holds = holds;
  stays = refl;
  written = Appends-nil w;
}

pub going_more : (caller : Caller) (first mid last : Seen) (l0 l1 l2 t0 t1 t2 w0 w1 w2 : Option (List ℕ))
    (s0 s1 s2 k0 k1 k2 : ℕ) (dones dones_new : List Done) (before after : Reading) (turn : Turn) (asked : Asked)
    → Going caller first mid (change l0 l1 s0 s1) (change w0 w1 k0 k1) t0 t1 dones before
    → Reaches before after l1 l2 asked → Serves caller asked mid last dones dones_new turn
    → Tells t1 t2 (pos turn.now) → turn.asked.last ≡ false → Appends w1 w2 turn.reply
    → Going caller first last (change l0 l2 s0 s2) (change w0 w2 k0 k2) t0 t2 dones_new after
unfolding serving_read serving_turn
going_more caller first mid last l0 l1 l2 t0 t1 t2 w0 w1 w2 s0 s1 s2 k0 k1 k2 dones dones_new before after turn asked g r
    v tells goes written =
    let read = serving_read caller first mid l0 l1 l2 s0 s1 s2 t0 t1 g.turns g.ahead r.piece g.serving r.consumed in
    let f = r.finds (length g.serving.used) g.ahead g.holds in
    record {
      turns = g.turns ++ turn ∷ [];
      ahead = f.rest;
      serving = serving_turn caller first mid last (change l0 l2 s0 s2) t0 t1 t2 dones dones_new g.turns turn asked
          (g.ahead ++ r.piece) after g.stays (done-length g.turns dones g.done) read f v tells;
      done = subst (AllZip IsDone (g.turns ++ turn ∷ [])) (sym v.noted)
          (done-more g.turns dones turn v.done g.done v.shown);
      holds = subst (λ n. Holds n f.rest after.held) (sym (length-append g.serving.used f.used)) f.holds;
      stays = closes_more g.turns turn ∙ goes;
      written = took_more w0 w1 w2 g.turns turn g.written written;
    }

-- the list of turns moved in memory, and nothing was written
pub going_moved : (caller : Caller) (first last : Seen) (source : Change) (t0 t1 w0 w1 w2 : Option (List ℕ))
    (k0 k1 k2 : ℕ) (dones moved : List Done) (reader : Reading) → moved ≡ dones → w2 ≡ w1
    → Going caller first last source (change w0 w1 k0 k1) t0 t1 dones reader
    → Going caller first last source (change w0 w2 k0 k2) t0 t1 moved reader
going_moved caller first last source t0 t1 w0 w1 w2 k0 k1 k2 dones moved reader same silent g = record {
  turns = g.turns;
  ahead = g.ahead;
  serving = g.serving;
  done = subst (AllZip IsDone g.turns) (sym same) g.done;
  holds = g.holds;
  stays = g.stays;
  written = subst (λ w. Appends w0 w (replies_of g.turns)) (sym silent) g.written;
}

-- ---- it ends

pub ends_memory : (caller : Caller) (first last : Seen) (source sink : Change) (t0 t1 : Option (List ℕ))
    (dones : List Done) (reader : Reading) → length dones < turn_limit
    → Going caller first last source sink t0 t1 dones reader
    → IsSession (connection caller first last source sink t0 t1 dones ends.Memory)
ends_memory caller first last source sink t0 t1 dones reader few g = record {
  turns = g.turns;
  few = omega (arith, few, done-length g.turns dones g.done);
  rest = g.ahead;
  serving = g.serving;
  done = g.done;
  ends = ((g.stays, omega (arith, few, done-length g.turns dones g.done)), g.written);
}

pub ends_limit : (caller : Caller) (first last : Seen) (source sink : Change) (t0 t1 : Option (List ℕ))
    (dones : List Done) (reader : Reading) → length dones ≡ turn_limit
    → Going caller first last source sink t0 t1 dones reader
    → IsSession (connection caller first last source sink t0 t1 dones ends.Limit)
ends_limit caller first last source sink t0 t1 dones reader full g = record {
  turns = g.turns;
  few = omega (arith, full, done-length g.turns dones g.done);
  rest = g.ahead;
  serving = g.serving;
  done = g.done;
  ends = (done-length g.turns dones g.done ∙ full, g.stays, g.written);
}

read_ends : (l0 l1 l2 w0 w1 w2 : Option (List ℕ)) (s0 s1 s2 k0 k1 k2 : ℕ) (turns : List Turn) (start : ℕ)
    (rest : List ℕ) (end : End) → s0 ≤ s1 → k0 ≤ k1 → StaysOpen turns → Appends w0 w1 (replies_of turns)
    → EndsReading (change l1 l2 s1 s2) (change w1 w2 k1 k2) start rest end
    → Ends (change l0 l2 s0 s2) (change w0 w2 k0 k2) turns start rest end
read_ends l0 l1 l2 w0 w1 w2 s0 s1 s2 k0 k1 k2 turns start rest ends.Closed p q stays w e =
    (e.0, e.1, stays, subst (λ x. Appends w0 x (replies_of turns)) (sym e.2) w)
read_ends l0 l1 l2 w0 w1 w2 s0 s1 s2 k0 k1 k2 turns start rest ends.AskedClose p q stays w e = absurd e
read_ends l0 l1 l2 w0 w1 w2 s0 s1 s2 k0 k1 k2 turns start rest ends.Limit p q stays w e = absurd e
read_ends l0 l1 l2 w0 w1 w2 s0 s1 s2 k0 k1 k2 turns start rest ends.SourceFault p q stays w e =
    (Rose-earlier s0 s1 s2 p e.0, e.1, stays, subst (λ x. Appends w0 x (replies_of turns)) (sym e.2) w)
read_ends l0 l1 l2 w0 w1 w2 s0 s1 s2 k0 k1 k2 turns start rest ends.SinkFault p q stays w e =
    inr (stays, (e.0, e.1, cut_more w0 w1 w2 k0 k1 k2 (replies_of turns) (fault_bytes e.0) q w e.2))
read_ends l0 l1 l2 w0 w1 w2 s0 s1 s2 k0 k1 k2 turns start rest (ends.BadInput fault) p q stays w e =
    (e.0, stays, Appends-trans w0 w1 w2 (replies_of turns) (fault_bytes fault) w e.1)
read_ends l0 l1 l2 w0 w1 w2 s0 s1 s2 k0 k1 k2 turns start rest ends.Memory p q stays w e =
    (stays, subst (λ x. Appends w0 x (replies_of turns)) (sym e) w)

pub ends_reading : (caller : Caller) (first last : Seen) (l0 l1 l2 t0 t1 w0 w1 w2 : Option (List ℕ))
    (s0 s1 s2 k0 k1 k2 : ℕ) (dones : List Done) (reader : Reading) (end : End) → s0 ≤ s1 → k0 ≤ k1
    → length dones < turn_limit → Going caller first last (change l0 l1 s0 s1) (change w0 w1 k0 k1) t0 t1 dones reader
    → (piece : List ℕ) × Consumes l1 l2 piece × ((start : ℕ) (bytes : List ℕ) → Holds start bytes reader.held
    → EndsReading (change l1 l2 s1 s2) (change w1 w2 k1 k2) start (bytes ++ piece) end)
    → IsSession (connection caller first last (change l0 l2 s0 s2) (change w0 w2 k0 k2) t0 t1 dones end)
unfolding serving_read
ends_reading caller first last l0 l1 l2 t0 t1 w0 w1 w2 s0 s1 s2 k0 k1 k2 dones reader end p q few g e =
    let short : length g.turns < turn_limit = omega (arith, few, done-length g.turns dones g.done) in
    record {
      turns = g.turns;
      few = omega (arith, short);
      rest = g.ahead ++ e.0;
      serving = serving_read caller first last l0 l1 l2 s0 s1 s2 t0 t1 g.turns g.ahead e.0 g.serving e.1;
      done = g.done;
      ends = read_ends l0 l1 l2 w0 w1 w2 s0 s1 s2 k0 k1 k2 g.turns (length g.serving.used) (g.ahead ++ e.0) end p q
          (g.stays, short) g.written (e.2 (length g.serving.used) g.ahead g.holds);
    }

turn_ends : (source : Change) (w0 w1 w2 : Option (List ℕ)) (k0 k1 k2 : ℕ) (turns : List Turn) (turn : Turn)
    (start : ℕ) (rest : List ℕ) (end : End) → k0 ≤ k1 → Appends w0 w1 (replies_of turns)
    → EndsTurn turn (change w1 w2 k1 k2) end
    → Ends source (change w0 w2 k0 k2) (turns ++ turn ∷ []) start rest end
turn_ends source w0 w1 w2 k0 k1 k2 turns turn start rest ends.Closed q w e = absurd e
turn_ends source w0 w1 w2 k0 k1 k2 turns turn start rest ends.AskedClose q w e =
    (closes_more turns turn ∙ e.0, took_more w0 w1 w2 turns turn w e.1)
turn_ends source w0 w1 w2 k0 k1 k2 turns turn start rest ends.Limit q w e = absurd e
turn_ends source w0 w1 w2 k0 k1 k2 turns turn start rest ends.SourceFault q w e = absurd e
turn_ends source w0 w1 w2 k0 k1 k2 turns turn start rest ends.SinkFault q w e =
    inl (turns, turn, refl, cut_more w0 w1 w2 k0 k1 k2 (replies_of turns) turn.reply q w e)
turn_ends source w0 w1 w2 k0 k1 k2 turns turn start rest (ends.BadInput fault) q w e = absurd e
turn_ends source w0 w1 w2 k0 k1 k2 turns turn start rest ends.Memory q w e = absurd e

pub ends_turn : (caller : Caller) (first mid last : Seen) (l0 l1 l2 t0 t1 t2 w0 w1 w2 : Option (List ℕ))
    (s0 s1 s2 k0 k1 k2 : ℕ) (dones dones_new : List Done) (before after : Reading) (turn : Turn) (asked : Asked)
    (end : End) → k0 ≤ k1 → length dones < turn_limit
    → Going caller first mid (change l0 l1 s0 s1) (change w0 w1 k0 k1) t0 t1 dones before
    → Reaches before after l1 l2 asked → Serves caller asked mid last dones dones_new turn
    → Tells t1 t2 (pos turn.now) → EndsTurn turn (change w1 w2 k1 k2) end
    → IsSession (connection caller first last (change l0 l2 s0 s2) (change w0 w2 k0 k2) t0 t2 dones_new end)
unfolding serving_read serving_turn
ends_turn caller first mid last l0 l1 l2 t0 t1 t2 w0 w1 w2 s0 s1 s2 k0 k1 k2 dones dones_new before after turn asked end q
    few g r v tells e =
    let read = serving_read caller first mid l0 l1 l2 s0 s1 s2 t0 t1 g.turns g.ahead r.piece g.serving r.consumed in
    let f = r.finds (length g.serving.used) g.ahead g.holds in
    record {
      turns = g.turns ++ turn ∷ [];
      few = omega (arith, few, done-length g.turns dones g.done, length-append g.turns (turn ∷ []));
      rest = f.rest;
      serving = serving_turn caller first mid last (change l0 l2 s0 s2) t0 t1 t2 dones dones_new g.turns turn asked
          (g.ahead ++ r.piece) after g.stays (done-length g.turns dones g.done) read f v tells;
      done = subst (AllZip IsDone (g.turns ++ turn ∷ [])) (sym v.noted)
          (done-more g.turns dones turn v.done g.done v.shown);
      ends = turn_ends (change l0 l2 s0 s2) w0 w1 w2 k0 k1 k2 g.turns turn
          (length (g.serving.used ++ f.used)) f.rest end q g.written e;
    }
