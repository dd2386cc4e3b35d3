-- A session of syslog that has not ended, how it goes on, and how it ends.
use Rattle.std.proofs.Common.{◌≡◌, inl, inr, ℕ, ◌+◌, ◌<◌, ◌≤◌, ◌^◌, List, [], ◌∷◌, ◌++◌}
use Rattle.std.proofs.Common.{length, take, drop, Option, None, Some, refl, sym, ap, subst, ◌∙◌, arith}
use Rattle.std.proofs.Common.{append_assoc, append-nil}
use Rattle.std.specs.Prelude.{◌⊎◌, count_by, is_none}
use Rattle.std.specs.List.{AllByRecursion}
use Rattle.std.proofs.lemmas.List.{length-append, take-append-drop}
use Rattle.vl_io.specs.Bytes.{Consumes}
use Rattle.vl_io.specs.Change.{Change, Gave, IsSpent}
use Rattle.vl_io.proofs.Laws.{Consumes-nil, Consumes-trans, Rose-earlier}
use Rattle.log_model.specs.Row.{Batch, Row}
use Rattle.syslog_in.specs.Framer.{Framing, HasTaken}
use Rattle.syslog_in.specs.Framer.{Ends as EndsInput}
use Rattle.syslog_in.specs.Framing.{AreFrames, CanGoOn}
use Rattle.syslog_in.specs.declared.fault.FrameFault.TheVariants as faults
use Rattle.log_desk.specs.Seen.{Caller, Seen}
use Rattle.vl_session.specs.Seen.{Has}
use Rattle.vl_session.specs.SyslogSession.{AreReads, AreTakenUp, EndsStream, GivesEnd, GivesPiece, IsFront}
use Rattle.vl_session.specs.SyslogSession.{IsHeldUp, IsMessageOutcome, IsSyslogSession, IsTakenUp, IsLeft, IsWhole, Read}
use Rattle.vl_session.specs.SyslogSession.{TakesAll, end_effect}
use Rattle.vl_session.specs.SyslogSession.{batches_of, bytes_read, messages_of, moment_of, moments_read, outcomes_of}
use Rattle.vl_session.specs.SyslogSession.{message_rows, session_limit, taken_up}
use Rattle.vl_session.specs.SyslogTaking.{BeginWith, Comes, Feeds, StopsAt, TakesUp, report_of}
use Rattle.vl_session.specs.Turns.{GaveMoments}
use Rattle.vl_session.specs.declared.syslog_intake.Counts.{Counts}
use Rattle.vl_session.specs.declared.syslog_report.SyslogEnd.{SyslogEnd}
use Rattle.vl_session.specs.declared.syslog_report.SyslogEnd.TheVariants as ends
use Rattle.vl_session.proofs.SeenLemmas.{follows_none}
use Rattle.vl_session.proofs.SyslogFrames.{few_messages, frames_more, front_more, one_at_most}
use Rattle.vl_session.proofs.SyslogLists.{each_append, flat_more, no_batches, none_append, rows_append, rows_or_none}
use Rattle.vl_session.proofs.SyslogLists.{taken_all, takes_append, zip_length, zip_within}

abbrev pub change : Option (List ℕ) → Option (List ℕ) → ℕ → ℕ → Change
change old new before after =
    record { bytes_before = old; bytes_after = new; faults_before = before; faults_after = after }

abbrev pub read_of : List ℕ → List (List ℕ) → ℕ → List (Option Row) → List Batch → Read
read_of bytes messages now outcomes batches =
    record { bytes = bytes; messages = messages; now = now; outcomes = outcomes; batches = batches }

-- ---- reads that gave pieces

abbrev pub ArePieces : List ℕ → List Read → Type 0
ArePieces fed [] = Unit {0}
ArePieces fed (read ∷ reads) = GivesPiece fed read × IsWhole read × ArePieces (fed ++ read.bytes) reads

are_reads : (source : Change) (fed : List ℕ) (reads : List Read) → ArePieces fed reads → AreReads source fed reads
are_reads source fed [] a = tt
are_reads source fed (read ∷ reads) a =
    (inl a.0, λ some. a.1, are_reads source (fed ++ read.bytes) reads a.2)

behind_one : (fed : List ℕ) (read : Read) (reads : List Read)
    → fed ++ bytes_read (read ∷ reads) ≡ (fed ++ read.bytes) ++ bytes_read reads
behind_one fed read reads = sym (append_assoc fed read.bytes (bytes_read reads))

pieces_more : (fed : List ℕ) (reads : List Read) (read : Read) → ArePieces fed reads
    → GivesPiece (fed ++ bytes_read reads) read → IsWhole read → ArePieces fed (reads ++ read ∷ [])
pieces_more fed [] read a b whole = (subst (λ l. GivesPiece l read) (append-nil fed) b, whole, tt)
pieces_more fed (first ∷ reads) read a b whole = (
  a.0,
  a.1,
  pieces_more (fed ++ first.bytes) reads read a.2
      (subst (λ l. GivesPiece l read) (behind_one fed first reads) b) whole,
)

abbrev no_reads : List Read
no_reads = []

-- what the last read gives
abbrev GivesLast : Change → Read → List ℕ → Type 0
GivesLast source read fed = GivesPiece fed read ⊎ (GivesEnd source fed read × (no_reads ≡ []))

last_more : (source : Change) (fed : List ℕ) (reads : List Read) (read : Read) → ArePieces fed reads
    → GivesLast source read (fed ++ bytes_read reads) → AreReads source fed (reads ++ read ∷ [])
last_more source fed [] read a b =
    (subst (GivesLast source read) (append-nil fed) b, λ some. absurd (omega (arith, some)), tt)
last_more source fed (first ∷ reads) read a b = (
  inl a.0,
  λ some. a.1,
  last_more source (fed ++ first.bytes) reads read a.2
      (subst (GivesLast source read) (behind_one fed first reads) b),
)

gives_piece : (fed piece left rest : List ℕ) (before : List (List ℕ)) (source : Change) (messages : List (List ℕ))
    (now : ℕ) (outcomes : List (Option Row)) (batches : List Batch) → Feeds fed piece source messages rest
    → AreFrames fed before left → CanGoOn left → AreFrames (fed ++ piece) (before ++ messages) rest
    → GivesPiece fed (read_of piece messages now outcomes batches)
gives_piece fed piece left rest before source messages now outcomes batches f is_before goes_on is_after = record {
  some = f.some;
  few = f.few;
  before = before;
  left = left;
  rest = rest;
  is_before = is_before;
  goes_on = goes_on;
  is_after = is_after;
}

gives_end : (source : Change) (fed : List ℕ) (framer : Framing) (messages : List (List ℕ)) (now : ℕ)
    (outcomes : List (Option Row)) (batches : List Batch) → IsSpent source → HasTaken framer fed
    → EndsInput framer [] messages → GivesEnd source fed (read_of [] messages now outcomes batches)
gives_end source fed framer messages now outcomes batches spent h e = record {
  none = refl;
  spent = spent;
  before = h.messages;
  rest = framer.rest;
  is_before = h.frames;
  goes_on = h.goes_on;
  whole = e.no_length;
  is_last = e.given;
}

-- ---- what became of their messages

told_append : (a b c : Option (List ℕ)) (xs ys : List ℕ) → GaveMoments a b xs → GaveMoments b c ys
    → GaveMoments a c (xs ++ ys)
told_append a b None xs ys p q = tt
told_append a None (Some z) xs ys p q = absurd q
told_append None (Some y) (Some z) xs ys p q = absurd p
told_append (Some x) (Some y) (Some z) xs ys p q = q ∙ ap (λ l. l ++ ys) p ∙ append_assoc x xs ys

told_none : (a : Option (List ℕ)) → GaveMoments a a []
told_none None = tt
told_none (Some x) = sym (append-nil x)

handled_first : (caller : Caller) (seen : Seen) (t : Option (List ℕ)) (counts : Counts) → counts.accepted ≡ 0 → counts.refused ≡ 0
    → AreTakenUp caller seen seen t t counts.accepted counts.refused []
handled_first caller seen t counts none nothing = record {
  told = told_none t;
  each = tt;
  taken = refl;
  accepted_is = none;
  refused_is = nothing;
}

handled_more : (caller : Caller) (first mid last : Seen) (t0 t1 t2 : Option (List ℕ)) (before after : Counts) (reads : List Read)
    (bytes : List ℕ) (messages : List (List ℕ)) (now : ℕ) (outcomes : List (Option Row)) (batches : List Batch)
    → AreTakenUp caller first mid t0 t1 before.accepted before.refused reads → GaveMoments t1 t2 (moment_of messages now)
    → TakesUp caller now messages mid last before after outcomes batches
    → AreTakenUp caller first last t0 t2 after.accepted after.refused
    (reads ++ read_of bytes messages now outcomes batches ∷ [])
handled_more caller first mid last t0 t1 t2 before after reads bytes messages now outcomes batches a told u =
    let read = read_of bytes messages now outcomes batches in
    let all : outcomes_of (reads ++ read ∷ []) ≡ outcomes_of reads ++ outcomes =
    flat_more (λ (r : Read). r.outcomes) reads read in
    let rows : length (message_rows (outcomes_of (reads ++ read ∷ [])))
    ≡ length (message_rows (outcomes_of reads)) + length (message_rows outcomes) =
    ap (λ l. length (message_rows l)) all ∙ ap length (rows_append (outcomes_of reads) outcomes)
    ∙ length-append (message_rows (outcomes_of reads)) (message_rows outcomes) in
    let others : count_by is_none (outcomes_of (reads ++ read ∷ []))
    ≡ count_by is_none (outcomes_of reads) + count_by is_none outcomes =
    ap (λ l. count_by is_none l) all ∙ none_append (outcomes_of reads) outcomes in
    record {
      told = subst (GaveMoments t0 t2) (sym (flat_more (λ (r : Read). moment_of r.messages r.now) reads read))
          (told_append t0 t1 t2 (moments_read reads) (moment_of messages now) a.told told);
      each = each_append IsTakenUp reads (read ∷ []) a.each (
        record
            { given = u.given; cut = u.cut; full = u.full },
        tt,
      );
      taken = subst (λ l. TakesAll caller first l last) (sym (flat_more (λ (r : Read). r.batches) reads read))
          (takes_append caller first mid last (batches_of reads) batches a.taken u.taken);
      accepted_is = omega (arith, a.accepted_is, u.accepted, rows);
      refused_is = omega (arith, a.refused_is, u.refused, others);
    }

-- a read without messages
handled_none : (caller : Caller) (first mid last : Seen) (t0 t1 t2 : Option (List ℕ)) (before after : Counts) (reads : List Read)
    (messages : List (List ℕ)) (now : ℕ) (outcomes : List (Option Row)) (batches : List Batch) → messages ≡ []
    → AreTakenUp caller first mid t0 t1 before.accepted before.refused reads → GaveMoments t1 t2 (moment_of messages now)
    → TakesUp caller now messages mid last before after outcomes batches
    → AreTakenUp caller first last t0 t2 after.accepted after.refused reads
handled_none caller first mid last t0 t1 t2 before after reads messages now (outcome ∷ outcomes) batches none a told u =
    absurd (omega (arith, zip_within (IsMessageOutcome now) messages (outcome ∷ outcomes) u.given, ap length none))
handled_none caller first mid last t0 t1 t2 before after reads messages now [] batches none a told u =
    let silent : GaveMoments t1 t2 [] = subst (λ l. GaveMoments t1 t2 (moment_of l now)) none told in
    let same : last ≡ mid = subst (λ l. TakesAll caller mid l last) (no_batches batches u.cut) u.taken in
    record {
      told = subst (GaveMoments t0 t2) (append-nil (moments_read reads))
          (told_append t0 t1 t2 (moments_read reads) [] a.told silent);
      each = a.each;
      taken = subst (λ seen. TakesAll caller first (batches_of reads) seen) (sym same) a.taken;
      accepted_is = omega (arith, a.accepted_is, u.accepted);
      refused_is = omega (arith, a.refused_is, u.refused);
    }

-- no more messages were taken up than there are
handled_few : (reads : List Read) → AllByRecursion IsTakenUp reads
    → length (outcomes_of reads) ≡ length (messages_of reads)
handled_few [] a = refl
handled_few (read ∷ reads) a = omega (
  arith,
  zip_length (IsMessageOutcome read.now) (taken_up read) read.outcomes a.0.given,
  handled_few reads a.1,
  length-append read.outcomes (outcomes_of reads),
  length-append (taken_up read) (messages_of reads),
)

-- ---- it goes on

pub record Going (caller : Caller) (first last : Seen) (source : Change) (t0 t1 : Option (List ℕ)) (counts : Counts) (framer : Framing)
    (taken : ℕ) : Type 0 where
  pub reads : List Read
  pub gave : Gave source (bytes_read reads)
  pub pieces : ArePieces [] reads
  pub frames : AreFrames (bytes_read reads) (messages_of reads) framer.rest
  pub holds : HasTaken framer (bytes_read reads)
  pub counted : length (bytes_read reads) ≡ taken
  pub handled : AreTakenUp caller first last t0 t1 counts.accepted counts.refused reads

no_messages : (messages : List (List ℕ)) → length messages ≤ 0 → messages ≡ []
no_messages [] few = refl
no_messages (message ∷ messages) few = absurd (omega (arith, few))

pub going_first : (caller : Caller) (seen : Seen) (l t : Option (List ℕ)) (s : ℕ) (counts : Counts) (framer : Framing) (taken : ℕ)
    → counts.accepted ≡ 0 → counts.refused ≡ 0 → HasTaken framer [] → taken ≡ 0
    → Going caller seen seen (change l l s s) t t counts framer taken
going_first caller seen l t s counts framer taken none nothing h zero_is =
    let few = few_messages [] framer.rest h.messages h.frames in
    record {
      reads = [];
      gave = Consumes-nil l;
      pieces = tt;
      frames = subst (λ l. AreFrames [] l framer.rest) (no_messages h.messages (omega (arith, few))) h.frames;
      holds = h;
      counted = sym zero_is;
      handled = handled_first caller seen t counts none nothing;
    }

-- all messages of a read were taken up
all_taken : (reads : List Read) (bytes : List ℕ) (messages : List (List ℕ)) (now : ℕ) (outcomes : List (Option Row))
    (batches : List Batch) → length outcomes ≡ length messages
    → messages_of (reads ++ read_of bytes messages now outcomes batches ∷ []) ≡ messages_of reads ++ messages
all_taken reads bytes messages now outcomes batches all =
    flat_more taken_up reads (read_of bytes messages now outcomes batches)
    ∙ ap (λ l. messages_of reads ++ l) (taken_all (length outcomes) messages all)

bytes_more : (reads : List Read) (bytes : List ℕ) (messages : List (List ℕ)) (now : ℕ) (outcomes : List (Option Row))
    (batches : List Batch)
    → bytes_read (reads ++ read_of bytes messages now outcomes batches ∷ []) ≡ bytes_read reads ++ bytes
bytes_more reads bytes messages now outcomes batches =
    flat_more (λ (r : Read). r.bytes) reads (read_of bytes messages now outcomes batches)

pub going_more : (caller : Caller) (first mid last : Seen) (l0 l1 l2 t0 t1 t2 : Option (List ℕ)) (s0 s1 s2 : ℕ) (before after : Counts)
    (old new : Framing) (was is : ℕ) (messages : List (List ℕ)) (now : ℕ) (outcomes : List (Option Row))
    (batches : List Batch) → (g : Going caller first mid (change l0 l1 s0 s1) t0 t1 before old was)
    → Comes (bytes_read g.reads) (change l1 l2 s1 s2) old new messages is None
    → GaveMoments t1 t2 (moment_of messages now)
    → TakesUp caller now messages mid last before after outcomes batches → length outcomes ≡ length messages
    → Going caller first last (change l0 l2 s0 s2) t0 t2 after new is
going_more caller first mid last l0 l1 l2 t0 t1 t2 s0 s1 s2 before after old new was is messages now outcomes batches g c
    told u
    all =
    let piece = c.0 in
    let f = c.1 in
    let bytes : bytes_read (g.reads ++ read_of piece messages now outcomes batches ∷ []) ≡ bytes_read g.reads ++ piece =
    bytes_more g.reads piece messages now outcomes batches in
    record {
      reads = g.reads ++ read_of piece messages now outcomes batches ∷ [];
      gave = subst (Consumes l0 l2) (sym bytes) (Consumes-trans l0 l1 l2 (bytes_read g.reads) piece g.gave f.gave);
      pieces = pieces_more [] g.reads (read_of piece messages now outcomes batches) g.pieces
          (gives_piece (bytes_read g.reads) piece old.rest new.rest (messages_of g.reads) (change l1 l2 s1 s2) messages now
          outcomes batches f g.frames g.holds.goes_on
          (frames_more (bytes_read g.reads) piece old.rest new.rest (messages_of g.reads) messages g.frames f.completes))
          all;
      frames = subst (λ l. AreFrames l (messages_of (g.reads ++ read_of piece messages now outcomes batches ∷ []))
          new.rest)
          (sym bytes)
          (subst (λ l. AreFrames (bytes_read g.reads ++ piece) l new.rest)
          (sym (all_taken g.reads piece messages now outcomes batches all))
          (frames_more (bytes_read g.reads) piece old.rest new.rest (messages_of g.reads) messages g.frames
          f.completes));
      holds = subst (HasTaken new) (sym bytes) c.2;
      counted = ap length bytes ∙ c.3;
      handled = handled_more caller first mid last t0 t1 t2 before after g.reads piece messages now outcomes batches g.handled
          told u;
    }

-- ---- it ends

made : (caller : Caller) (first mid last : Seen) (source : Change) (t0 t1 : Option (List ℕ)) (counts : Counts)
    (end : SyslogEnd) (reads : List Read) (left all : List ℕ) → all ≡ bytes_read reads ++ left → IsLeft end left
    → Gave source all → length all ≤ session_limit → AreReads source [] reads
    → AreTakenUp caller first mid t0 t1 counts.accepted counts.refused reads → Has caller mid last (end_effect end)
    → EndsStream source reads all last end → IsSyslogSession caller first last source t0 t1 (report_of counts end)
made caller first mid last source t0 t1 counts end reads left all is unread gave few are handled has e = record {
  reads = reads;
  left = left;
  unread = unread;
  gave = subst (Gave source) is gave;
  few = subst (λ l. length l ≤ session_limit) is few;
  are_reads = are;
  mid = mid;
  taken = handled;
  has = has;
  ended = subst (λ l. EndsStream source reads l last end) is e;
}

module _ (caller : Caller) (first mid last : Seen) (l0 l1 l2 t0 t1 t2 : Option (List ℕ)) (s0 s1 s2 : ℕ) (before after : Counts)
    (old : Framing) (was : ℕ) (messages : List (List ℕ)) (now : ℕ) (outcomes : List (Option Row))
    (batches : List Batch) (g : Going caller first mid (change l0 l1 s0 s1) t0 t1 before old was)
    (told : GaveMoments t1 t2 (moment_of messages now))
    (u : TakesUp caller now messages mid last before after outcomes batches) where
  abbrev source : Change
  source = change l0 l2 s0 s2

  abbrev step : Change
  step = change l1 l2 s1 s2

  abbrev fed : List ℕ
  fed = bytes_read g.reads

  abbrev with_read : List ℕ → List Read
  with_read piece = g.reads ++ read_of piece messages now outcomes batches ∷ []

  -- the frames with this piece
  frames_with : (piece rest : List ℕ) → Feeds fed piece step messages rest
      → AreFrames (fed ++ piece) (messages_of g.reads ++ messages) rest
  frames_with piece rest f = frames_more fed piece old.rest rest (messages_of g.reads) messages g.frames f.completes

  -- after a piece
  by_piece : (piece rest : List ℕ) (end : SyslogEnd) (final : Seen) → Has caller last final (end_effect end)
      → Feeds fed piece step messages rest → IsLeft end [] → EndsStream source (with_read piece) (fed ++ piece) final end
      → IsSyslogSession caller first final source t0 t2 (report_of after end)
  by_piece piece rest end final others f unread e =
      made caller first last final source t0 t2 after end (with_read piece) [] (fed ++ piece)
      (sym (bytes_more g.reads piece messages now outcomes batches)
      ∙ sym (append-nil (bytes_read (with_read piece)))) unread
      (Consumes-trans l0 l1 l2 fed piece g.gave f.gave) f.within
      (last_more source [] g.reads (read_of piece messages now outcomes batches) g.pieces
      (inl (gives_piece fed piece old.rest rest (messages_of g.reads) step messages now outcomes batches f g.frames
      g.holds.goes_on (frames_with piece rest f))))
      (handled_more caller first mid last t0 t1 t2 before after g.reads piece messages now outcomes batches g.handled
      told u) others e

  -- after the input's end
  by_end : (end : SyslogEnd) (final : Seen) → Has caller last final (end_effect end) → was < session_limit → Gave step []
      → IsSpent step → EndsInput old [] messages → IsLeft end [] → EndsStream source (with_read []) fed final end
      → IsSyslogSession caller first final source t0 t2 (report_of after end)
  by_end end final others within gave spent e unread ended =
      let bytes : bytes_read (with_read []) ≡ fed =
      bytes_more g.reads [] messages now outcomes batches ∙ append-nil fed in
      made caller first last final source t0 t2 after end (with_read []) [] fed
      (sym bytes ∙ sym (append-nil (bytes_read (with_read [])))) unread
      (subst (Consumes l0 l2) (append-nil fed) (Consumes-trans l0 l1 l2 fed [] g.gave gave))
      (omega (arith, g.counted, within))
      (last_more source [] g.reads (read_of [] messages now outcomes batches) g.pieces
      (inr (gives_end source fed old messages now outcomes batches spent g.holds e, refl)))
      (handled_more caller first mid last t0 t1 t2 before after g.reads [] messages now outcomes batches g.handled
      told u) others ended

  -- without a message
  by_none : (left : List ℕ) (end : SyslogEnd) → Has caller last last (end_effect end) → messages ≡ []
      → Gave step left → length (fed ++ left) ≤ session_limit → IsLeft end left → EndsStream source g.reads (fed ++ left) last end
      → IsSyslogSession caller first last source t0 t2 (report_of after end)
  by_none left end has none gave few unread e =
      made caller first last last source t0 t2 after end g.reads left (fed ++ left) refl unread
      (Consumes-trans l0 l1 l2 fed left g.gave gave) few (are_reads source [] g.reads g.pieces)
      (handled_none caller first mid last t0 t1 t2 before after g.reads messages now outcomes batches none g.handled
      told u) has e

  -- the frames, where all messages were taken up
  frames_all : (piece rest : List ℕ) → length outcomes ≡ length messages → Feeds fed piece step messages rest
      → AreFrames (fed ++ piece) (messages_of (with_read piece)) rest
  frames_all piece rest all f =
      subst (λ l. AreFrames (fed ++ piece) l rest) (sym (all_taken g.reads piece messages now outcomes batches all))
      (frames_with piece rest f)

  -- nothing more came
  same_bytes : fed ++ [] ≡ fed
  same_bytes = append-nil fed

  few_bytes : was < session_limit → length (fed ++ []) < session_limit
  few_bytes within = omega (arith, ap length same_bytes, g.counted, within)

  pub ends_behind : (new : Framing) (is : ℕ) (end : SyslogEnd) → s0 ≤ s1 → was < session_limit
      → Comes fed step old new messages is (Some end) → length outcomes ≡ length messages
      → IsSyslogSession caller first last source t0 t2 (report_of after end)
  ends_behind new is ends.Closed stays within c all =
      by_end ends.Closed last refl within c.0 c.1 c.2 refl (
        messages_of g.reads,
        old.rest,
        record { frames = g.frames; goes_on = g.holds.goes_on },
        c.2.no_length,
        all_taken g.reads [] messages now outcomes batches all ∙ ap (λ l. messages_of g.reads ++ l) c.2.given,
        c.1,
        omega (arith, g.counted, within),
      )
  ends_behind new is ends.Limit stays within c all =
      by_piece c.0 new.rest ends.Limit last refl c.1 refl
      (new.rest, record { frames = frames_all c.0 new.rest all c.1; goes_on = c.2.goes_on }, c.3)
  ends_behind new is ends.SourceFault stays within c all =
      by_none [] ends.SourceFault refl c.2 c.0 (omega (arith, few_bytes within)) refl (
        old.rest,
        record {
          frames = subst (λ l. AreFrames l (messages_of g.reads) old.rest) (sym same_bytes) g.frames;
          goes_on = g.holds.goes_on;
        },
        Rose-earlier s0 s1 s2 stays c.1,
        few_bytes within,
      )
  ends_behind new is (ends.BadFrame (faults.BadLength at)) stays within c all =
      by_piece c.0 c.1 (ends.BadFrame (faults.BadLength at)) last refl c.2 refl
      (c.1, frames_all c.0 c.1 all c.2, c.3)
  ends_behind new is (ends.BadFrame (faults.TooLong at)) stays within c all =
      by_piece c.0 c.1 (ends.BadFrame (faults.TooLong at)) last refl c.2 refl
      (c.1, frames_all c.0 c.1 all c.2, c.3)
  ends_behind new is (ends.BadFrame (faults.Cut at)) stays within c all =
      by_none [] (ends.BadFrame (faults.Cut at)) refl c.2 c.0 (omega (arith, few_bytes within)) refl
      (subst (λ l. EndsStream source g.reads l last (ends.BadFrame (faults.Cut at))) (sym same_bytes)
      (old.rest, g.frames, c.1))
  ends_behind new is (ends.BadFrame (faults.Ended first₁ at)) stays within c all = absurd c
  ends_behind new is (ends.BadFrame faults.Memory) stays within c all = absurd c
  ends_behind new is (ends.Full held) stays within c all = absurd c
  ends_behind new is ends.Spent stays within c all = absurd c
  ends_behind new is ends.Memory stays within c all =
      by_none c.0 ends.Memory (follows_none caller last) c.4 c.1 c.3 c.2 (front_more fed c.0 old.rest (messages_of g.reads) g.frames)

  -- ---- some messages are left

  -- of all messages they are the first
  front_piece : (piece rest : List ℕ) → Feeds fed piece step messages rest
      → IsFront (fed ++ piece) (messages_of (with_read piece))
  front_piece piece rest f =
      let all = frames_with piece rest f in
      record {
        later = drop (length outcomes) messages;
        rest = rest;
        frames = subst (λ l. AreFrames (fed ++ piece) l rest) (sym (
            ap (λ l. l ++ drop (length outcomes) messages)
            (flat_more taken_up g.reads (read_of piece messages now outcomes batches))
            ∙ append_assoc (messages_of g.reads) (take (length outcomes) messages) (drop (length outcomes) messages)
            ∙ ap (λ l. messages_of g.reads ++ l) (take-append-drop (length outcomes) messages)
            )) all;
      }

  no_first : length outcomes ≡ 0 → take (length outcomes) messages ≡ []
  no_first none = ap (λ n. take n messages) none

  front_end : length outcomes < length messages → EndsInput old [] messages → IsFront fed (messages_of (with_read []))
  front_end less e =
      let none : length outcomes ≡ 0 =
      omega (arith, less, ap length e.given, one_at_most old.rest) in
      record {
        later = [];
        rest = old.rest;
        frames = subst (λ l. AreFrames fed l old.rest) (sym (
            append-nil (messages_of (with_read []))
            ∙ flat_more taken_up g.reads (read_of [] messages now outcomes batches)
            ∙ ap (λ l. messages_of g.reads ++ l) (no_first none) ∙ append-nil (messages_of g.reads)
            )) g.frames;
      }

  held_by : (piece : List ℕ) (later : List (Option Row)) → BeginWith now (drop (length outcomes) messages) later
      → 0 < length (message_rows later) → IsHeldUp (with_read piece)
  held_by piece later given some = record {
    front = g.reads;
    read = read_of piece messages now outcomes batches;
    is_last = refl;
    outcomes = later;
    given = given;
    some = some;
  }

  stop_ends : (piece all : List ℕ) (end : SyslogEnd) (final : Seen) → IsFront all (messages_of (with_read piece))
      → StopsAt now messages outcomes final end → EndsStream source (with_read piece) all final end
  stop_ends piece all ends.Closed final f s = absurd s.2
  stop_ends piece all ends.Limit final f s = absurd s.2
  stop_ends piece all ends.SourceFault final f s = absurd s.2
  stop_ends piece all (ends.BadFrame fault) final f s = absurd s.2
  stop_ends piece all (ends.Full held) final f s = (f, held_by piece s.0 s.1 s.2.0, s.2.1, s.2.2)
  stop_ends piece all ends.Spent final f s = (f, held_by piece s.0 s.1 s.2.0, s.2.1, s.2.2)
  stop_ends piece all ends.Memory final f s = f

  nothing_unread : (end : SyslogEnd) → IsLeft end []
  nothing_unread ends.Closed = refl
  nothing_unread ends.Limit = refl
  nothing_unread ends.SourceFault = refl
  nothing_unread (ends.BadFrame fault) = refl
  nothing_unread (ends.Full held) = refl
  nothing_unread ends.Spent = refl
  nothing_unread ends.Memory = omega arith

  stop_piece : (piece rest : List ℕ) (end : SyslogEnd) (final : Seen) → Has caller last final (end_effect end)
      → Feeds fed piece step messages rest → StopsAt now messages outcomes final end
      → IsSyslogSession caller first final source t0 t2 (report_of after end)
  stop_piece piece rest end final others f s =
      by_piece piece rest end final others f (nothing_unread end)
      (stop_ends piece (fed ++ piece) end final (front_piece piece rest f) s)

  pub stops_in : (new : Framing) (is : ℕ) (then : Option SyslogEnd) (end : SyslogEnd) (final : Seen)
      → was < session_limit → Comes fed step old new messages is then → Has caller last final (end_effect end)
      → StopsAt now messages outcomes final end → length outcomes < length messages
      → IsSyslogSession caller first final source t0 t2 (report_of after end)
  stops_in new is None end final within c others s less = stop_piece c.0 new.rest end final others c.1 s
  stops_in new is (Some ends.Closed) end final within c others s less =
      by_end end final others within c.0 c.1 c.2 (nothing_unread end) (stop_ends [] fed end final (front_end less c.2) s)
  stops_in new is (Some ends.Limit) end final within c others s less = stop_piece c.0 new.rest end final others c.1 s
  stops_in new is (Some ends.SourceFault) end final within c others s less = absurd (omega (arith, less, ap length c.2))
  stops_in new is (Some (ends.BadFrame (faults.BadLength at))) end final within c others s less = stop_piece c.0 c.1 end final others c.2 s
  stops_in new is (Some (ends.BadFrame (faults.TooLong at))) end final within c others s less = stop_piece c.0 c.1 end final others c.2 s
  stops_in new is (Some (ends.BadFrame (faults.Cut at))) end final within c others s less = absurd
      (omega (arith, less, ap length c.2))
  stops_in new is (Some (ends.BadFrame (faults.Ended first₁ at))) end final within c others s less = absurd c
  stops_in new is (Some (ends.BadFrame faults.Memory)) end final within c others s less = absurd c
  stops_in new is (Some (ends.Full held)) end final within c others s less = absurd c
  stops_in new is (Some ends.Spent) end final within c others s less = absurd c
  stops_in new is (Some ends.Memory) end final within c others s less = absurd (omega (arith, less, ap length c.4))

-- ---- counts

-- With those of a read, no more messages came than bytes, and one for the end.
pub few_come : (caller : Caller) (first last : Seen) (source step : Change) (t0 t1 : Option (List ℕ)) (counts : Counts)
    (old new : Framing)
    (was is : ℕ) (messages : List (List ℕ)) (then : Option SyslogEnd)
    → (g : Going caller first last source t0 t1 counts old was)
    → was < session_limit → Comes (bytes_read g.reads) step old new messages is then
    → counts.accepted + counts.refused + length messages < 2 ^ 64
few_come caller first last source step t0 t1 counts old new was is messages then g within c =
    omega (
      arith,
      sum,
      handled_few g.reads g.handled.each,
      rows_or_none (outcomes_of g.reads),
      g.handled.accepted_is,
      g.handled.refused_is,
    )
  where
    before : length (messages_of g.reads) ≤ length (bytes_read g.reads)
    before = few_messages (bytes_read g.reads) old.rest (messages_of g.reads) g.frames

    with_piece : (piece rest : List ℕ) → Feeds (bytes_read g.reads) piece step messages rest
        → length (messages_of g.reads) + length messages ≤ session_limit
    with_piece piece rest f = omega (
      arith,
      f.within,
      length-append (messages_of g.reads) messages,
      few_messages (bytes_read g.reads ++ piece) rest (messages_of g.reads ++ messages)
          (frames_more (bytes_read g.reads) piece old.rest rest (messages_of g.reads) messages g.frames f.completes),
    )

    none : messages ≡ [] → length (messages_of g.reads) + length messages ≤ session_limit
    none same = omega (arith, before, g.counted, within, ap length same)

    of : (then : Option SyslogEnd) → Comes (bytes_read g.reads) step old new messages is then
        → length (messages_of g.reads) + length messages ≤ session_limit
    of None c = with_piece c.0 new.rest c.1
    of (Some ends.Closed) c =
        omega (arith, before, g.counted, within, ap length c.2.given, one_at_most old.rest)
    of (Some ends.Limit) c = with_piece c.0 new.rest c.1
    of (Some ends.SourceFault) c = none c.2
    of (Some (ends.BadFrame (faults.BadLength at))) c = with_piece c.0 c.1 c.2
    of (Some (ends.BadFrame (faults.TooLong at))) c = with_piece c.0 c.1 c.2
    of (Some (ends.BadFrame (faults.Cut at))) c = none c.2
    of (Some (ends.BadFrame (faults.Ended first₁ at))) c = absurd c
    of (Some (ends.BadFrame faults.Memory)) c = absurd c
    of (Some (ends.Full held)) c = absurd c
    of (Some ends.Spent) c = absurd c
    of (Some ends.Memory) c = none c.4

    sum : length (messages_of g.reads) + length messages ≤ session_limit
    sum = of then c

-- memory ran out to begin with
pub ends_at_once : (caller : Caller) (first last : Seen) (l0 l1 t0 t1 : Option (List ℕ)) (s0 s1 : ℕ) (counts : Counts) (framer : Framing)
    (taken : ℕ) → Going caller first last (change l0 l1 s0 s1) t0 t1 counts framer taken → taken < session_limit
    → IsSyslogSession caller first last (change l0 l1 s0 s1) t0 t1 (report_of counts ends.Memory)
ends_at_once caller first last l0 l1 t0 t1 s0 s1 counts framer taken g within =
    let bytes = bytes_read g.reads in
    made caller first last last (change l0 l1 s0 s1) t0 t1 counts ends.Memory g.reads [] (bytes ++ []) refl
    (omega arith)
    (subst (Consumes l0 l1) (sym (append-nil bytes)) g.gave) (omega
    (arith, ap length (append-nil bytes), g.counted, within))
    (are_reads (change l0 l1 s0 s1) [] g.reads g.pieces) g.handled (follows_none caller last) (front_more bytes [] framer.rest (messages_of g.reads) g.frames)
