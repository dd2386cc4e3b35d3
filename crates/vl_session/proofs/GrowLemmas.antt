-- How what a caller has seen grows over its turns.
use Rattle.std.proofs.Common.{◌≡◌, inl, inr, ℕ, ◌+◌, ◌≤◌, true, List, [], ◌∷◌, ◌++◌, length, refl, ap, sym, subst, ◌∙◌, arith}
use Rattle.std.proofs.Common.{append_assoc, append-nil, length-append}
use Rattle.std.specs.Prelude.{filter}
use Rattle.std.specs.List.{AllByRecursion}
use Rattle.std.proofs.lemmas.List.{map-append}
use Rattle.std.proofs.lemmas.List.Elements.{filter-append}
use Rattle.log_model.specs.History.{Entry, History, batches_in, entry_rows}
use Rattle.log_model.specs.Row.{Batch}
use Rattle.log_desk.specs.Seen.{Caller, Follows, IsStrange, Seen, is_own, turn_of}
use Rattle.log_desk.specs.TurnEnd.{TurnEnd}
use Rattle.log_desk.proofs.SeenLaws.{none_beside_one, none_own}
use Rattle.vl_session.specs.Laws.{AreEnds, EndOf, Grows, IsOfCaller}
use Rattle.vl_session.specs.Seen.{Effect, Has, added, adds, asks, looks, nothing, desk_turns}
use Rattle.vl_session.specs.SyslogSession.{TakesAll, end_effect}
use Rattle.vl_session.specs.declared.syslog_report.SyslogEnd.{SyslogEnd}
use Rattle.vl_session.specs.declared.syslog_report.SyslogEnd.TheVariants as ends
use Rattle.vl_session.specs.Turns.{AreTurns, Turn, accepted_in, desk_turns_of}

grows_none : (caller : Caller) (old new : Seen) → new ≡ old → Grows caller old new [] 0
grows_none caller old new same = record {
  later = [];
  longer = ap (λ (s : Seen). s.history) same ∙ sym (append-nil old.history);
  made = refl;
  makers = tt;
  settled = omega (arith, ap (λ (s : Seen). s.settled) same);
  stays = λ may. ap (λ (s : Seen). s.settled) same;
  ends = [];
  turns = ap (λ (s : Seen). s.turns) same ∙ sym (append-nil old.turns);
  took = omega arith;
}

-- an entry of the caller's own after those of others
own_last : (caller : Caller) (others : History) (entry : Entry) → AllByRecursion (IsStrange caller) others
    → is_own caller entry ≡ true → filter (is_own caller) (others ++ entry ∷ []) ≡ entry ∷ []
own_last caller others entry strange own =
    filter-append (is_own caller) others (entry ∷ [])
    ∙ ap (λ l. l ++ filter (is_own caller) (entry ∷ [])) (none_own caller others strange) ∙ rw own refl

of_others : (caller : Caller) (others : History) → AllByRecursion (IsStrange caller) others
    → AllByRecursion (IsOfCaller caller) others
of_others caller [] strange = tt
of_others caller (entry ∷ others) strange = (inr strange.0, of_others caller others strange.1)

of_both : (caller : Caller) (first later : History) → AllByRecursion (IsOfCaller caller) first
    → AllByRecursion (IsOfCaller caller) later → AllByRecursion (IsOfCaller caller) (first ++ later)
of_both caller [] later a b = b
of_both caller (entry ∷ first) later a b = (a.0, of_both caller first later a.1 b)

pub grows_follows : (caller : Caller) (old new : Seen) (ends : List TurnEnd) → Follows caller old new
    → new.turns ≡ old.turns ++ ends → Grows caller old new [] (length ends)
grows_follows caller old new ends f turns = record {
  later = f.others;
  longer = f.longer;
  made = ap batches_in (none_own caller f.others f.strange);
  makers = of_others caller f.others f.strange;
  settled = f.settled;
  stays = f.stays;
  ends = ends;
  turns = turns;
  took = omega arith;
}

-- as many turns at least are fewer at least
at_least : (caller : Caller) (old new : Seen) (batches : List Batch) (m n : ℕ) → n ≤ m → Grows caller old new batches m
    → Grows caller old new batches n
at_least caller old new batches m n le g = record {
  later = g.later;
  longer = g.longer;
  made = g.made;
  makers = g.makers;
  settled = g.settled;
  stays = g.stays;
  ends = g.ends;
  turns = g.turns;
  took = omega (arith, le, g.took);
}

pub grows_by : (caller : Caller) (old new : Seen) (effect : Effect) → Has caller old new effect
    → Grows caller old new (added effect) (desk_turns effect)
grows_by caller old new nothing same = grows_none caller old new same
grows_by caller old new asks f =
    at_least caller old new [] (length f.more_turns) 0 (omega arith)
    (grows_follows caller old new f.more_turns f f.turns)
grows_by caller old new looks f = grows_follows caller old new (turn_of new ∷ []) f.0 f.1
grows_by caller old new (adds batch) g = record {
  later = g.others ++ g.entry ∷ [];
  longer = g.longer;
  made = ap batches_in (own_last caller g.others g.entry g.strange g.own) ∙ ap (λ b. b ∷ []) g.rows;
  makers = of_both caller g.others (g.entry ∷ []) (of_others caller g.others g.strange) (inl g.own, tt);
  settled = g.settled;
  stays = g.stays;
  ends = turn_of new ∷ [];
  turns = g.turn;
  took = omega arith;
}

pub grows_then : (caller : Caller) (old mid new : Seen) (xs ys : List Batch) (m n : ℕ) → Grows caller old mid xs m
    → Grows caller mid new ys n → Grows caller old new (xs ++ ys) (m + n)
grows_then caller old mid new xs ys m n g h = record {
  later = g.later ++ h.later;
  longer = h.longer ∙ ap (λ l. l ++ h.later) g.longer ∙ append_assoc old.history g.later h.later;
  made = ap batches_in (filter-append (is_own caller) g.later h.later)
      ∙ map-append entry_rows (filter (is_own caller) g.later) (filter (is_own caller) h.later)
      ∙ ap (λ l. l ++ batches_in (filter (is_own caller) h.later)) g.made ∙ ap (λ l. xs ++ l) h.made;
  makers = of_both caller g.later h.later g.makers h.makers;
  settled = omega (arith, g.settled, h.settled);
  stays = λ may. h.stays may ∙ g.stays may;
  ends = g.ends ++ h.ends;
  turns = h.turns ∙ ap (λ l. l ++ h.ends) g.turns ∙ append_assoc old.turns g.ends h.ends;
  took = omega (arith, g.took, h.took, length-append g.ends h.ends);
}

-- The caller's own entries of a session are exactly the batches of its accepted inserts, in order.
pub turns_grow : (caller : Caller) (before : ℕ) (old new : Seen) (turns : List Turn)
    → AreTurns caller before old turns new → Grows caller old new (accepted_in turns) (desk_turns_of turns)
turns_grow caller before old new [] same = grows_none caller old new same
turns_grow caller before old new (turn ∷ turns) t =
    grows_then caller old turn.seen new (added turn.effect) (accepted_in turns) (desk_turns turn.effect)
    (desk_turns_of turns) (grows_by caller old turn.seen turn.effect t.0.has)
    (turns_grow caller _ turn.seen new turns t.1)

-- ---- the ends of turns

end_of : (caller : Caller) (old new : Seen) (effect : Effect) → Has caller old new effect
    → (ends : List TurnEnd) × (new.turns ≡ old.turns ++ ends) × EndOf effect new ends
end_of caller old new nothing same = ([], ap (λ (s : Seen). s.turns) same ∙ sym (append-nil old.turns), refl)
end_of caller old new asks f = (f.more_turns, f.turns, tt)
end_of caller old new looks f = (turn_of new ∷ [], f.1, refl)
end_of caller old new (adds batch) g = (turn_of new ∷ [], g.turn, refl)

-- A session's turns at the desk are those of its requests, in order.
pub turns_end : (caller : Caller) (before : ℕ) (old new : Seen) (turns : List Turn) → AreTurns caller before old turns new
    → (ends : List TurnEnd) × (new.turns ≡ old.turns ++ ends) × AreEnds turns ends
turns_end caller before old new [] same =
    ([], ap (λ (s : Seen). s.turns) same ∙ sym (append-nil old.turns), refl)
turns_end caller before old new (turn ∷ turns) t =
    let first = end_of caller old turn.seen turn.effect t.0.has in
    let then = turns_end caller _ turn.seen new turns t.1 in (
      first.0 ++ then.0,
      then.1 ∙ ap (λ l. l ++ then.0) first.1 ∙ append_assoc old.turns first.0 then.0,
      (first.0, then.0, refl, first.2, then.2),
    )

-- ---- batches of a stream

grows_as : (caller : Caller) (old new : Seen) (xs ys : List Batch) (m n : ℕ) → xs ≡ ys → m ≡ n
    → Grows caller old new xs m → Grows caller old new ys n
grows_as caller old new xs ys m n same count g =
    subst (Grows caller old new ys) count (subst (λ l. Grows caller old new l m) same g)

takes_grow : (caller : Caller) (old new : Seen) (batches : List Batch) → TakesAll caller old batches new
    → Grows caller old new batches (length batches)
takes_grow caller old new [] same = grows_none caller old new same
takes_grow caller old new (batch ∷ batches) t =
    grows_as caller old new ((batch ∷ []) ++ batches) (batch ∷ batches) (1 + length batches)
    (length (batch ∷ batches)) refl (omega arith)
    (grows_then caller old t.0 new (batch ∷ []) batches 1 (length batches)
    (grows_by caller old t.0 (adds batch) t.1.gains) (takes_grow caller t.0 new batches t.2))

end_grows : (caller : Caller) (mid last : Seen) (end : SyslogEnd) → Has caller mid last (end_effect end)
    → Grows caller mid last [] (desk_turns (end_effect end))
end_grows caller mid last ends.Closed has = grows_by caller mid last nothing has
end_grows caller mid last ends.Limit has = grows_by caller mid last nothing has
end_grows caller mid last ends.SourceFault has = grows_by caller mid last nothing has
end_grows caller mid last (ends.BadFrame fault) has = grows_by caller mid last nothing has
end_grows caller mid last (ends.Full held) has = grows_by caller mid last looks has
end_grows caller mid last ends.Spent has = grows_by caller mid last looks has
end_grows caller mid last ends.Memory has = grows_by caller mid last asks has

-- The caller's own entries of a session of syslog are exactly its batches, in order.
pub stream_grows : (caller : Caller) (first mid last : Seen) (batches : List Batch) (end : SyslogEnd)
    → TakesAll caller first batches mid → Has caller mid last (end_effect end)
    → Grows caller first last batches (length batches + desk_turns (end_effect end))
stream_grows caller first mid last batches end taken has =
    grows_as caller first last (batches ++ []) batches (length batches + desk_turns (end_effect end))
    (length batches + desk_turns (end_effect end)) (append-nil batches) refl
    (grows_then caller first mid last batches [] (length batches) (desk_turns (end_effect end))
    (takes_grow caller first mid batches taken) (end_grows caller mid last end has))

-- ---- one caller

module _ (caller : Caller) (one : caller.lock.passes ≡ 1) (first : caller.numbers ≡ 0 ∷ []) where
  never_strange : (entry : Entry) → IsStrange caller entry → ⊥
  never_strange entry strange =
      let none : entry ∷ [] ≡ [] = none_beside_one caller (entry ∷ []) one first (strange, tt) in cc

  all_own : (later : History) → AllByRecursion (IsOfCaller caller) later → filter (is_own caller) later ≡ later
  all_own [] makers = refl
  all_own (entry ∷ later) (inl own, makers) = rw own (ap (λ l. entry ∷ l) (all_own later makers))
  all_own (entry ∷ later) (inr strange, makers) = absurd (never_strange entry strange)

  -- What was added is the caller's own batches, and nothing else.
  pub alone_grows : (old new : Seen) (batches : List Batch) (turns : ℕ) → Grows caller old new batches turns
      → batches_in new.history ≡ batches_in old.history ++ batches
  alone_grows old new batches turns g =
      ap batches_in g.longer ∙ map-append entry_rows old.history g.later
      ∙ ap (λ l. batches_in old.history ++ l) (ap batches_in (sym (all_own g.later g.makers)) ∙ g.made)
