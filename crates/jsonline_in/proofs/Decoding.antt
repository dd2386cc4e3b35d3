-- The text of a string, as it is put together from left to right.
use Rattle.std.proofs.Common.{◌≡◌, ℕ, suc, ◌+◌, ◌<◌, Bool, true, false, not, ◌||◌, cond, eqb, List, [], ◌∷◌, ◌++◌}
use Rattle.std.proofs.Common.{length, map, take, drop, Option, Some, None, Result, Ok, Err, refl, sym, ap, subst, ◌∙◌}
use Rattle.std.proofs.Common.{append_assoc, arith}
use Rattle.std.specs.Prelude.{nat_le}
use Rattle.std.specs.List.{prefix_len}
use Rattle.std.proofs.lemmas.Bool.{and_parts, eqb-true}
use Rattle.std.proofs.lemmas.List.{length-append, length-drop}
use Rattle.log_model.specs.Json.{is_plain}
use Rattle.log_model.specs.Token.{Character, plain, alone, text_behind, string_text}
use Rattle.jsonline_in.specs.Reading.{past, Fault, deep, stuck, ◌>>=◌, gives, fails, chosen_by, expect, one_of}
use Rattle.jsonline_in.specs.Reading.{escape_at, plain_at, some_of, character_at, put_character, characters_at, turn}
use Rattle.std.specs.Result.{IsErrAnd}
use Rattle.jsonline_in.specs.Clauses.{Fails, ReadsAs, mapped}
use Rattle.jsonline_in.specs.declared.scan_fault.ScanFault.{ScanFault}
use Rattle.jsonline_in.specs.declared.scan_fault.ScanFault.TheVariants.{TooDeep, Stuck, Memory}
use Rattle.jsonline_in.proofs.Good.{reads_of, past_takes}
use Rattle.jsonline_in.proofs.Steps.{one_again, one_stops, none_behind}
use Rattle.jsonline_in.proofs.Texts.{IsBehind, good_escape, character_shrinks}
use Rattle.jsonline_in.proofs.Turns.{unrolled}

-- ---- the text of a run

pub text_of_run : (run : List ℕ) (more : List Character) → text_behind 0 (map plain run ++ more) ≡ run
    ++ text_behind 0 more
text_of_run [] more = refl
text_of_run (byte ∷ run) more = ap (λ (t : List ℕ). byte ∷ t) (text_of_run run more)

pub run_behind : (before : ℕ) (run : List ℕ) (more : List Character) → 0 < length run
    → text_behind before (map plain run ++ more) ≡ alone before ++ (run ++ text_behind 0 more)
run_behind before [] more h = absurd (omega arith)
run_behind before (byte ∷ run) more h = ap (λ (t : List ℕ). alone before ++ byte ∷ t) (text_of_run run more)

run_set : (old new now : List ℕ) (before : ℕ) (run : List ℕ) (more : List Character) → 0 < length run → now ≡ old
    ++ alone before → new ≡ now ++ run → old ++ text_behind before (map plain run ++ more) ≡ new ++ text_behind 0 more
run_set old new now before run more h e f =
    ap (λ (t : List ℕ). old ++ t) (run_behind before run more h)
    ∙ sym (append_assoc old (alone before) (run ++ text_behind 0 more))
    ∙ ap (λ (t : List ℕ). t ++ (run ++ text_behind 0 more)) (sym e)
    ∙ sym (append_assoc now run (text_behind 0 more)) ∙ ap (λ (t : List ℕ). t ++ text_behind 0 more) (sym f)

pub run_taken : (old new now run : List ℕ) (before : ℕ) → eqb (length run) 0 ≡ false → now ≡ old ++ alone before
    → new ≡ now ++ run
    → (more : List Character) → old ++ text_behind before (map plain run ++ more) ≡ new ++ text_behind 0 more
run_taken old new now run before some e f more = run_set old new now before run more (long run some) e f
  where
    long : (run : List ℕ) → eqb (length run) 0 ≡ false → 0 < length run
    long [] e = absurd cc
    long (x ∷ xs) e = omega arith

pub no_run : (old run : List ℕ) (before : ℕ) → eqb (length run) 0 ≡ true → (more : List Character) → old
    ++ text_behind before (map plain run ++ more) ≡ old ++ text_behind before more
no_run old [] before none more = refl
no_run old (byte ∷ run) before none more = absurd (let empty = eqb-true (length (byte ∷ run)) 0 none in omega arith)

pub run_step : (bytes run old new : List ℕ) (before unit : ℕ) → run ≡ take (prefix_len is_plain bytes) bytes
    → ((more : List Character) → old ++ text_behind before (map plain run ++ more) ≡ new ++ text_behind unit more)
    → (more : List Character) → old ++ text_behind before (map plain (take (prefix_len is_plain bytes) bytes) ++ more)
    ≡ new ++ text_behind unit more
run_step bytes run old new before unit is step more = ap
    (λ (t : List ℕ). old ++ text_behind before (map plain t ++ more)) (sym is) ∙ step more

-- ---- what is read in one turn

abbrev pub put_prefix : List Character → List Character × List ℕ → Result (List Character × List ℕ) Fault
put_prefix prefix x = Ok (prefix ++ x.0, x.1)

pub turned : (bytes : List ℕ) → characters_at bytes ≡ (character_at bytes >>= turn put_character [] characters_at)
unfolding characters_at
turned bytes = unrolled put_character [] character_at character_shrinks bytes

plain_no_mark : (first : ℕ) (rest : List ℕ) → is_plain first ≡ true → (past 34 (first ∷ rest) ≡ None)
    × (past 92 (first ∷ rest) ≡ None)
plain_no_mark first rest e =
    let p = and_parts (nat_le 32 first) (not (eqb first 34 || eqb first 92)) e in
    let m = neither (eqb first 34) (eqb first 92) p.1 in
    (ap (λ (t : Bool). cond t (Some rest) None) m.0, ap (λ (t : Bool). cond t (Some rest) None) m.1)
  where
    neither : (a b : Bool) → not (a || b) ≡ true → (a ≡ false) × (b ≡ false)
    neither true b h = absurd cc
    neither false true h = absurd cc
    neither false false h = (refl, refl)

abbrev as_some : Result (Character × List ℕ) Fault → Result (Option Character × List ℕ) Fault
as_some r = r >>= λ x. Ok (Some x.0, x.1)

abbrev as_plain : Result (ℕ × List ℕ) Fault → Result (Character × List ℕ) Fault
as_plain r = r >>= λ byte. Ok (plain byte.0, byte.1)

-- what is read where the end is looked for, and then an escape
abbrev by_quote : List ℕ → Option (List ℕ) → Result (Option Character × List ℕ) Fault
by_quote bytes o = chosen_by (gives None) (some_of (λ bytes. chosen_by escape_at plain_at bytes (past 92 bytes)))
    bytes o

abbrev by_backslash : List ℕ → Option (List ℕ) → Result (Option Character × List ℕ) Fault
by_backslash bytes o = as_some (chosen_by escape_at plain_at bytes o)

abbrev pub goes_on : Result (Option Character × List ℕ) Fault → Result (List Character × List ℕ) Fault
goes_on r = r >>= turn put_character [] characters_at

pub one_plain : (first : ℕ) (rest : List ℕ) → is_plain first ≡ true
    → character_at (first ∷ rest) ≡ Ok (Some (plain first), rest)
unfolding character_at plain_at
one_plain first rest e =
    let n = plain_no_mark first rest e in
    ap (by_quote (first ∷ rest)) n.0
    ∙ ap (by_backslash (first ∷ rest)) n.1
    ∙ ap (λ (r : Result (ℕ × List ℕ) Fault). as_some (as_plain r)) (one_again is_plain first rest e)

pub run_read : (bytes : List ℕ) → characters_at bytes ≡
    (characters_at (drop (prefix_len is_plain bytes) bytes) >>= put_prefix
    (map plain (take (prefix_len is_plain bytes) bytes)))
run_read [] = nothing (characters_at [])
  where
    nothing : (r : Result (List Character × List ℕ) Fault) → r ≡ (r >>= put_prefix [])
    nothing (Ok x) = refl
    nothing (Err fault) = refl
run_read (first ∷ rest) = by_case (run_read rest) (is_plain first) refl
  where
    nothing : (r : Result (List Character × List ℕ) Fault) → r ≡ (r >>= put_prefix [])
    nothing (Ok x) = refl
    nothing (Err fault) = refl

    again : (run : List Character) (r : Result (List Character × List ℕ) Fault)
        → ((r >>= put_prefix run) >>= λ xs. Ok (plain first ∷ xs.0, xs.1)) ≡ (r >>= put_prefix (plain first ∷ run))
    again run (Ok x) = refl
    again run (Err fault) = refl

    by_case : characters_at rest ≡ (characters_at (drop (prefix_len is_plain rest) rest) >>= put_prefix
        (map plain (take (prefix_len is_plain rest) rest))) → (b : Bool) → is_plain first ≡ b
        → characters_at (first ∷ rest) ≡ (characters_at (drop (cond b (1 + prefix_len is_plain rest) 0)
        (first ∷ rest)) >>= put_prefix (map plain (take (cond b (1 + prefix_len is_plain rest) 0) (first ∷ rest))))
    by_case before false e = nothing (characters_at (first ∷ rest))
    by_case before true e =
        let n = prefix_len is_plain rest in
        let more : 1 + n ≡ suc n = omega arith in
        rw more
        (turned (first ∷ rest) ∙ ap goes_on (one_plain first rest e)
        ∙ ap (λ (r : Result (List Character × List ℕ) Fault). r >>= λ xs. Ok (plain first ∷ xs.0, xs.1)) before
        ∙ again (map plain (take n rest)) (characters_at (drop n rest)))

pub end_read : (bytes end : List ℕ) → past 34 bytes ≡ Some end → characters_at bytes ≡ Ok ([], end)
unfolding character_at
end_read bytes end e = turned bytes ∙ ap (λ (o : Option (List ℕ)). goes_on (by_quote bytes o)) e

-- what a reader of the rest gives, where an escape begins
abbrev pub escaped_by : Result (Character × List ℕ) Fault → Result (List Character × List ℕ) Fault
escaped_by read = read >>= λ x. characters_at x.1 >>= put_prefix (x.0 ∷ [])

pub escape_read : (bytes inner : List ℕ) → past 34 bytes ≡ None → past 92 bytes ≡ Some inner
    → characters_at bytes ≡ escaped_by (escape_at inner)
unfolding character_at
escape_read bytes inner e f =
    turned bytes ∙ ap (λ (o : Option (List ℕ)). goes_on (by_quote bytes o)) e
    ∙ ap (λ (o : Option (List ℕ)). goes_on (by_backslash bytes o)) f
    ∙ same (escape_at inner)
  where
    same : (r : Result (Character × List ℕ) Fault) → goes_on (as_some r) ≡ escaped_by r
    same (Ok x) = refl
    same (Err fault) = refl

-- neither the end nor an escape, after a run
pub nothing_read : (bytes : List ℕ) → prefix_len is_plain bytes ≡ 0 → past 34 bytes ≡ None → past 92 bytes ≡ None
    → characters_at bytes ≡ Err (stuck (length bytes))
unfolding character_at plain_at one_of
nothing_read bytes none e f =
    turned bytes ∙ ap (λ (o : Option (List ℕ)). goes_on (by_quote bytes o)) e
    ∙ ap (λ (o : Option (List ℕ)). goes_on (by_backslash bytes o)) f
    ∙ ap (λ (r : Result (ℕ × List ℕ) Fault). goes_on (as_some (as_plain r))) (stopped bytes none)
  where
    stopped : (bytes : List ℕ) → prefix_len is_plain bytes ≡ 0 → one_of is_plain bytes ≡ Err (stuck (length bytes))
    stopped [] none = refl
    stopped (first ∷ rest) none = by_case (is_plain first) refl none
      where
        by_case : (b : Bool) → is_plain first ≡ b → cond b (1 + prefix_len is_plain rest) 0 ≡ 0
            → one_of is_plain (first ∷ rest) ≡ Err (stuck (length (first ∷ rest)))
        by_case true e h = absurd (omega arith)
        by_case false e h = one_stops is_plain first rest e

abbrev pub done : List ℕ → Result (Unit {0} × List ℕ) Fault
done rest = Ok (tt, rest)

abbrev left_in : Result (Unit {0} × List ℕ) Fault → List ℕ
left_in (Ok x) = x.1
left_in (Err fault) = []

abbrev pub expected : List ℕ → Option (List ℕ) → Result (Unit {0} × List ℕ) Fault
expected bytes o = chosen_by (gives tt) fails bytes o

pub expect_past : (byte : ℕ) (bytes rest : List ℕ) → expect byte bytes ≡ Ok (tt, rest) → past byte bytes ≡ Some rest
unfolding expect
expect_past byte bytes rest e = found (past byte bytes) e
  where
    found : (o : Option (List ℕ)) → expected bytes o ≡ done rest → o ≡ Some rest
    found None h = absurd cc
    found (Some x) h = let same : x ≡ rest = ap (λ (r : Result (Unit {0} × List ℕ) Fault). left_in r) h in ap
        (λ (t : List ℕ). Some t) same

pub expect_none : (byte : ℕ) (bytes : List ℕ) (fault : Fault) → expect byte bytes ≡ Err fault
    → (past byte bytes ≡ None) × (fault ≡ stuck (length bytes))
unfolding expect
expect_none byte bytes fault e = found (past byte bytes) e
  where
    found : (o : Option (List ℕ)) → expected bytes o ≡ Err fault → (o ≡ None) × (fault ≡ stuck (length bytes))
    found None h = (refl, cc)
    found (Some x) h = absurd cc

prefix_more : (a b : List Character) (r : Result (List Character × List ℕ) Fault)
    → ((r >>= put_prefix b) >>= put_prefix a) ≡ (r >>= put_prefix (a ++ b))
prefix_more a b (Ok x) = ap (λ (t : List Character). Ok (t, x.1)) (sym (append_assoc a b x.0))
prefix_more a b (Err fault) = refl

pub escape_shorter : (bytes inner next : List ℕ) (character : Character) → past 92 bytes ≡ Some inner
    → escape_at inner ≡ Ok (character, next) → length next < length bytes
escape_shorter bytes inner next character e f =
    let r = reads_of (λ reach. IsBehind (92 ∷ [])) escape_at good_escape inner character next f in
    omega (arith, ap length (past_takes 92 bytes inner e), ap length r.parts, length-append r.text next)

-- after the run at the start
module _ (bytes after : List ℕ) (is : after ≡ drop (prefix_len is_plain bytes) bytes) where
  abbrev pub run : List Character
  run = map plain (take (prefix_len is_plain bytes) bytes)

  read_on : characters_at bytes ≡ (characters_at after >>= put_prefix run)
  read_on = run_read bytes ∙ ap (λ (t : List ℕ). characters_at t >>= put_prefix run) (sym is)

  pub behind_run : (fault : Fault) → characters_at after ≡ Err fault → characters_at bytes ≡ Err fault
  behind_run fault e = read_on ∙ ap (λ (r : Result (List Character × List ℕ) Fault). r >>= put_prefix run) e

  pub stuck_run : (fault : Fault) → past 34 after ≡ None → expect 92 after ≡ Err fault → characters_at bytes ≡ Err fault
  stuck_run fault e f =
      let none = expect_none 92 after fault f in
      let no_run : prefix_len is_plain after ≡ 0 = ap (prefix_len is_plain) is ∙ none_behind is_plain bytes in
      behind_run fault (nothing_read after no_run e none.0 ∙ ap (λ (x : Fault). Err x) (sym none.1))

  pub stuck_escape : (inner : List ℕ) (fault : Fault) → past 34 after ≡ None → expect 92 after ≡ Ok (tt, inner)
      → escape_at inner ≡ Err fault → characters_at bytes ≡ Err fault
  stuck_escape inner fault e f g = behind_run fault (escape_read after inner e (expect_past 92 after inner f)
      ∙ ap escaped_by g)

  pub run_and_escape : (inner next : List ℕ) (character : Character) → past 34 after ≡ None
      → expect 92 after ≡ Ok (tt, inner) → escape_at inner ≡ Ok (character, next)
      → characters_at bytes ≡ (characters_at next >>= put_prefix (run ++ character ∷ []))
  run_and_escape inner next character e f g =
      read_on ∙ ap (λ (r : Result (List Character × List ℕ) Fault). r >>= put_prefix run)
      (escape_read after inner e (expect_past 92 after inner f) ∙ ap escaped_by g)
      ∙ prefix_more run (character ∷ []) (characters_at next)

  pub run_and_end : (end : List ℕ) → past 34 after ≡ Some end → characters_at bytes ≡ (Ok ([], end) >>= put_prefix run)
  run_and_end end e = read_on ∙ ap (λ (r : Result (List Character × List ℕ) Fault). r >>= put_prefix run)
      (end_read after end e)

  pub run_shorter : (inner next : List ℕ) (character : Character) → expect 92 after ≡ Ok (tt, inner)
      → escape_at inner ≡ Ok (character, next) → length next < length bytes
  run_shorter inner next character f g = omega (
    arith,
    escape_shorter after inner next character
        (expect_past 92 after inner f) g,
    ap length is,
    length-drop (prefix_len is_plain bytes) bytes,
  )

-- ---- so far

-- Old and the text of the characters up to here are now, but for what the last code unit leaves.
pub record Decoded (old now : List ℕ) (before : ℕ) (rest : List ℕ) (total : Result (List Character × List ℕ) Fault) :
    Type 0 where
  pub prefix : List Character
  pub text : (more : List Character) → old ++ string_text (prefix ++ more) ≡ now ++ text_behind before more
  pub reached : total ≡ (characters_at rest >>= put_prefix prefix)

module _ (old now : List ℕ) (before : ℕ) (rest : List ℕ) (total : Result (List Character × List ℕ) Fault)
    (d : Decoded old now before rest total) where
  pub more_decoded : (new : List ℕ) (unit : ℕ) (next : List ℕ) (read : List Character)
      → ((more : List Character) → now ++ text_behind before (read ++ more) ≡ new ++ text_behind unit more)
      → characters_at rest ≡ (characters_at next >>= put_prefix read) → Decoded old new unit next total
  more_decoded new unit next read step e = record {
    prefix = d.prefix ++ read;
    text = λ more. ap (λ (t : List Character). old ++ string_text t) (append_assoc d.prefix read more)
        ∙ d.text (read ++ more) ∙ step more;
    reached = d.reached ∙ ap (λ (r : Result (List Character × List ℕ) Fault). r >>= put_prefix d.prefix) e
        ∙ prefix_more d.prefix read (characters_at next);
  }

  pub all_decoded : (read : List Character) (end mid new : List ℕ) (unit : ℕ)
      → characters_at rest ≡ (Ok ([], end) >>= put_prefix read)
      → ((more : List Character) → now ++ text_behind before (read ++ more) ≡ mid ++ text_behind unit more)
      → new ≡ mid ++ alone unit → mapped (λ characters. old ++ string_text characters) total ≡ Ok (new, end)
  all_decoded read end mid new unit e step f =
      ap (mapped (λ (characters : List Character). old ++ string_text characters))
      (d.reached ∙ ap (λ (r : Result (List Character × List ℕ) Fault). r >>= put_prefix d.prefix) e)
      ∙ ap (λ (t : List ℕ). Ok (t, end)) (d.text (read ++ []) ∙ step [] ∙ sym f)

  pub no_more : (fault : Fault) → characters_at rest ≡ Err fault
      → mapped (λ characters. old ++ string_text characters) total ≡ Err fault
  no_more fault e = ap (mapped (λ (characters : List Character). old ++ string_text characters))
      (d.reached ∙ ap (λ (r : Result (List Character × List ℕ) Fault). r >>= put_prefix d.prefix) e)

-- ---- where it stops

-- a reader that stops where another does
pub fails_too : {X Y : Type 0} (a : Result X Fault) (b : Result Y Fault) (stop : ScanFault)
    → ((fault : Fault) → a ≡ Err fault → b ≡ Err fault) → Fails stop a → Fails stop b
fails_too a b TooDeep same h = same deep h
fails_too a b (Stuck left) same h = same (stuck left) h
fails_too a b Memory same h = tt

pub stops_at : {X Y Z : Type 0} (view : X → Y) (r : Result X ScanFault) (stop : ScanFault) (a : Result Z Fault)
    (b : Result Y Fault) → IsErrAnd r (λ y. y ≡ stop) → ((fault : Fault) → a ≡ Err fault → b ≡ Err fault)
    → Fails stop a → ReadsAs view r b
stops_at view (Ok x) stop a b is same h = absurd is
stops_at view (Err y) stop a b is same h = fails_too a b y same (subst (λ (z : ScanFault). Fails z a) (sym is) h)

-- a run and an escape after it
pub two_steps : (now mid new : List ℕ) (before unit next : ℕ) (run : List Character) (character : Character)
    → ((more : List Character) → now ++ text_behind before (run ++ more) ≡ mid ++ text_behind unit more)
    → ((more : List Character) → mid ++ text_behind unit (character ∷ more) ≡ new ++ text_behind next more)
    → (more : List Character) → now ++ text_behind before ((run ++ character ∷ []) ++ more) ≡ new
    ++ text_behind next more
two_steps now mid new before unit next run character first second more = ap
    (λ (t : List Character). now ++ text_behind before t) (append_assoc run (character ∷ []) more)
    ∙ first (character ∷ more) ∙ second more
