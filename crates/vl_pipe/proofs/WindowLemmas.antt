-- Groups that are read before they are loaded.
use Rattle.std.proofs.Common.{◌≡◌, ◌⊎◌, inl, inr, ℕ, zero, suc, ◌+◌, ◌*◌, ◌<◌, ◌≤◌, Bool, true, false, cond, List, [], ◌∷◌}
use Rattle.std.proofs.Common.{◌++◌, length, max, Option, Ok, Err, refl, sym, ap, subst, ◌∙◌, arith, append-nil}
use Rattle.std.proofs.Common.{append_assoc, length-append, slice_index_or}
use Rattle.std.proofs.lemmas.Grind.{flat_map-append}
use Rattle.std.proofs.lemmas.List.Sums.{sum_by-append}
use Rattle.std.specs.Prelude.{count_by, Result}
use Rattle.vl_io.specs.Bytes.{Consumes, IsAtEnd}
use Rattle.vl_io.specs.Faults.{Rose}
use Rattle.vl_io.specs.Lines.{Advances, AreFewer, AreLines, FallsShort, IsGroup, IsOver, IsTooLong, Reading}
use Rattle.vl_io.specs.Lines.{is_feed, piece_len}
use Rattle.vl_io.specs.declared.transfer.ReadFault.{ReadFault}
use Rattle.vl_io.specs.declared.transfer.ReadFault.TheVariants as faults
use Rattle.vl_io.proofs.Laws.{Consumes-nil, Consumes-trans, Rose-earlier}
use Rattle.vl_pipe.specs.Program.{AreFew}
use Rattle.vl_pipe.specs.Window.{AreBehind, AreBodies, AreReadGroups, EndsWindow, IsBody, IsReadGroup, IsWindow}
use Rattle.vl_pipe.specs.Window.{bodies_of, joined}
use Rattle.vl_pipe.specs.declared.window.Group.{Group}
use Rattle.vl_pipe.specs.Groups.{Arrival}

abbrev pub Advanced : Option (List ℕ) → Option (List ℕ) → Reading → Reading → Type 0
Advanced old new reader next = (piece : List ℕ) × Consumes old new piece × Advances reader next piece

never : (b : Bool) → b ≡ false → b ≡ true → ⊥
never b is_false is_true = let wrong : false ≡ true = sym is_false ∙ is_true in cc

not_true : (b : Bool) → (b ≡ true → ⊥) → b ≡ false
not_true true f = absurd (f refl)
not_true false f = refl

-- a reader that gave a group, or failed, had not ended
pub still_open : {E : Type 0} (ended : Bool) (X : Type 0) (result : Result Bool E) → (result ≡ Ok false → ⊥) →
    (ended ≡ true → X × (result ≡ Ok false)) → ended ≡ false
still_open ended X result other idle = not_true ended (λ e. other (idle e).1)

le_split : (n k : ℕ) → n ≤ k → (n < k) ⊎ (n ≡ k)
le_split zero zero le = inr refl
le_split zero (suc k) le = inl (omega arith)
le_split (suc n) zero le = absurd (omega (arith, le))
le_split (suc n) (suc k) le = further (le_split n k (omega (arith, le)))
  where
    further : (n < k) ⊎ (n ≡ k) → (suc n < suc k) ⊎ (suc n ≡ suc k)
    further (inl less) = inl (omega (arith, less))
    further (inr same) = inr (ap suc same)

joined-more : (bodies : List (List ℕ)) (body : List ℕ) → joined (bodies ++ body ∷ []) ≡ joined bodies ++ body
joined-more bodies body =
    flat_map-append (λ (b : List ℕ). b) bodies (body ∷ []) ∙ ap (λ l. joined bodies ++ l) (append-nil body)

feeds-append : (xs ys : List ℕ) → count_by is_feed (xs ++ ys) ≡ count_by is_feed xs + count_by is_feed ys
feeds-append xs ys = sum_by-append (λ b. cond (is_feed b) 1 0) xs ys

-- ---- how much was read

-- one whole group more
few_more : (n : ℕ) (body rest : List ℕ) → AreLines 1000 body → AreBehind n rest → AreFew (n + 1) (body ++ rest)
few_more n body rest lines (inl short) = record {
  grouped = body;
  ahead = rest;
  parts = refl;
  lines = at_most n;
  short = short;
}
  where
    at_most : (k : ℕ) → AreFewer ((k + 1) * 1000) body ⊎ AreLines ((k + 1) * 1000) body
    at_most zero = inr lines
    at_most (suc k) = inl (let fewer : count_by is_feed body < (suc k + 1) * 1000 = omega (arith, lines.feeds) in fewer)
few_more n body rest lines (inr few) = record {
  grouped = body ++ few.grouped;
  ahead = few.ahead;
  parts = ap (λ bytes. body ++ bytes) few.parts ∙ sym (append_assoc body few.grouped few.ahead);
  lines = with_body few.lines;
  short = few.short;
}
  where
    with_body : AreFewer (n * 1000) few.grouped ⊎ AreLines (n * 1000) few.grouped
        → AreFewer ((n + 1) * 1000) (body ++ few.grouped) ⊎ AreLines ((n + 1) * 1000) (body ++ few.grouped)
    with_body (inl fewer) =
        let less : count_by is_feed (body ++ few.grouped) < (n + 1) * 1000 =
        omega (arith, feeds-append body few.grouped, lines.feeds, fewer) in
        inl less
    with_body (inr are) = inr (record {
      feeds = omega (arith, feeds-append body few.grouped, lines.feeds, are.feeds);
      front = body ++ are.front;
      ends = ap (λ bytes. body ++ bytes) are.ends ∙ sym (append_assoc body are.front (10 ∷ []));
    })

-- the last group, which has fewer lines
few_last : (n : ℕ) (body rest : List ℕ) → AreFewer 1000 body → rest ≡ [] → AreFew (n + 1) (body ++ rest)
few_last n body rest fewer none = record {
  grouped = body;
  ahead = rest;
  parts = refl;
  lines = inl (let less : count_by is_feed body < (n + 1) * 1000 = omega (arith, fewer) in less);
  short = omega (arith, ap length none);
}

few_body : (ended : Bool) (n : ℕ) (body rest : List ℕ) → IsBody ended body rest → AreBehind n rest
    → AreFew (n + 1) (body ++ rest)
few_body ended n body rest (inl lines) few = few_more n body rest lines few
few_body ended n body rest (inr short) few = few_last n body rest short.1 short.2

-- no more than that many groups
pub few_enough : (n k : ℕ) (bytes : List ℕ) → n ≤ k → 0 < k → AreBehind n bytes → AreFew k bytes
few_enough n k bytes least some (inl short) = record {
  grouped = [];
  ahead = bytes;
  parts = refl;
  lines = inl (let none : count_by is_feed [] < k * 1000 = omega (arith, some) in none);
  short = short;
}
few_enough n k bytes least some (inr few) = record {
  grouped = few.grouped;
  ahead = few.ahead;
  parts = few.parts;
  lines = at_most (le_split n k least) few.lines;
  short = few.short;
}
  where
    at_most : (n < k) ⊎ (n ≡ k) → AreFewer (n * 1000) few.grouped ⊎ AreLines (n * 1000) few.grouped
        → AreFewer (k * 1000) few.grouped ⊎ AreLines (k * 1000) few.grouped
    at_most (inr same) lines =
        subst (λ m. AreFewer (m * 1000) few.grouped ⊎ AreLines (m * 1000) few.grouped) same lines
    at_most (inl less) (inl fewer) =
        let few : count_by is_feed few.grouped < k * 1000 = omega (arith, less, fewer) in inl few
    at_most (inl less) (inr are) =
        let few : count_by is_feed few.grouped < k * 1000 = omega (arith, less, are.feeds) in inl few

-- bodies, and the tail behind them
pub behind_bodies : (ended : Bool) (bodies : List (List ℕ)) (tail : List ℕ) (n m : ℕ) → m ≡ length bodies + n
    → AreBodies ended bodies tail → AreBehind n tail → AreBehind m (joined bodies ++ tail)
behind_bodies ended [] tail n m is are few =
    let same : n ≡ m = omega (arith, is) in subst (λ k. AreBehind k tail) same few
behind_bodies ended (body ∷ bodies) tail n m is are few =
    let rest = behind_bodies ended bodies tail n (length bodies + n) refl are.1 few in
    let same : (length bodies + n) + 1 ≡ m = omega (arith, is) in
    inr (subst (AreFew m) (sym (append_assoc body (joined bodies) tail))
    (subst (λ k. AreFew k (body ++ (joined bodies ++ tail))) same
    (few_body ended (length bodies + n) body (joined bodies ++ tail) are.0 rest)))

-- ---- bodies

whole_of : (body rest : List ℕ) → IsBody false body rest → AreLines 1000 body
whole_of body rest (inl lines) = lines
whole_of body rest (inr short) = absurd (never false refl short.3)

-- before the source ended, all are whole
bodies_whole : (ended : Bool) (bodies : List (List ℕ)) (old tail : List ℕ) → AreBodies false bodies old
    → AreBodies ended bodies tail
bodies_whole ended [] old tail are = tt
bodies_whole ended (body ∷ bodies) old tail are =
    (inl (whole_of body (joined bodies ++ old) are.0), bodies_whole ended bodies old tail are.1)

bodies_more : (ended : Bool) (bodies : List (List ℕ)) (body old tail : List ℕ) → AreBodies false bodies old
    → IsBody ended body tail → AreBodies ended (bodies ++ body ∷ []) tail
bodies_more ended [] body old tail are is = (is, tt)
bodies_more ended (first ∷ bodies) body old tail are is =
    (inl (whole_of first (joined bodies ++ old) are.0), bodies_more ended bodies body old tail are.1 is)

bodies_over : (ended : Bool) (bodies : List (List ℕ)) (ahead : List ℕ) → AreBodies ended bodies ahead →
    (ended ≡ true → ahead ≡ []) → AreBodies true bodies []
bodies_over false bodies ahead are closed = bodies_whole true bodies ahead [] are
bodies_over true bodies ahead are closed = subst (AreBodies true bodies) (closed refl) are

-- a body has some bytes
pub some_body : (ended : Bool) (body rest : List ℕ) → IsBody ended body rest → 0 < length body
some_body ended body rest (inl lines) = omega (arith, ap length lines.ends, length-append lines.front (10 ∷ []))
some_body ended body rest (inr short) = short.0

some_joined : (ended : Bool) (bodies : List (List ℕ)) (tail : List ℕ) → AreBodies ended bodies tail
    → 0 < length bodies → 0 < length (joined bodies)
some_joined ended [] tail are some = absurd (omega (arith, some))
some_joined ended (body ∷ bodies) tail are some =
    omega (arith, some_body ended body (joined bodies ++ tail) are.0, length-append body (joined bodies))

-- ---- a window

-- one piece after another
chain : (front ahead old first second bytes : List ℕ) → front ++ ahead ≡ old ++ first → bytes ≡ ahead ++ second
    → front ++ bytes ≡ old ++ (first ++ second)
chain front ahead old first second bytes before here =
    ap (λ b. front ++ b) here
    ∙ sym (append_assoc front ahead second)
    ∙ ap (λ b. b ++ second) before
    ∙ append_assoc old first second

-- what is so of a window that takes groups
pub record Filling (old cur : Reading) (left_old left_cur : Option (List ℕ)) (faults_old faults_cur : ℕ)
    (bodies : List (List ℕ)) : Type 0 where
  pub piece : List ℕ
  pub consumed : Consumes left_old left_cur piece
  pub parts : joined bodies ++ cur.ahead ≡ old.ahead ++ piece
  pub group_lines : old.lines ≡ 1000
  pub lines : cur.lines ≡ old.lines
  pub limit : cur.limit ≡ old.limit
  pub passed : cur.passed + length cur.group ≡ old.passed + length old.group + length (joined bodies)
  pub within : cur.passed + length cur.group ≤ cur.limit
  pub are : AreBodies cur.ended bodies cur.ahead
  pub short : length cur.ahead ≤ piece_len
  pub closed : cur.ended ≡ true → cur.ahead ≡ []
  pub at_end : old.ended ≡ false → cur.ended ≡ true → IsAtEnd left_cur
  pub idle : old.ended ≡ true → (bodies ≡ []) × (left_cur ≡ left_old) × (cur.ended ≡ true)
  pub stays : faults_old ≤ faults_cur

pub fill_starts : (old : Reading) (left : Option (List ℕ)) (s : ℕ) (bodies : List (List ℕ)) → bodies ≡ []
    → old.lines ≡ 1000 → old.passed + length old.group ≤ old.limit → length old.ahead ≤ piece_len →
    (old.ended ≡ true → old.ahead ≡ [])
    → Filling old old left left s s bodies
fill_starts old left s bodies none lines within short closed = subst (Filling old old left left s s) (sym none) (record {
  piece = [];
  consumed = Consumes-nil left;
  parts = sym (append-nil old.ahead);
  group_lines = lines;
  lines = refl;
  limit = refl;
  passed = omega arith;
  within = within;
  are = tt;
  short = short;
  closed = closed;
  at_end = λ is_open is_ended. absurd (never old.ended is_open is_ended);
  idle = λ ended. (refl, refl, ended);
  stays = omega arith;
})

module _ (old cur next : Reading) (left0 left1 left2 : Option (List ℕ)) (s0 s1 s2 : ℕ) (bodies : List (List ℕ))
    (f : Filling old cur left0 left1 s0 s1 bodies) where
  abbrev Windows : Result Bool ReadFault → Type 0
  Windows more = IsWindow old next left0 left2 s0 s2 bodies more

  is_body : next.lines ≡ cur.lines → IsGroup next → IsBody next.ended next.group next.ahead
  is_body lines (inl whole) = inl (subst (λ n. AreLines n next.group) (lines ∙ f.lines ∙ f.group_lines) whole)
  is_body lines (inr short) =
      let fewer : AreFewer 1000 next.group = omega (arith, short.1, lines, f.lines, f.group_lines) in
      inr (short.0, fewer, short.2, short.3)

  short_more : length next.ahead ≤ max (length cur.ahead) piece_len → length next.ahead ≤ piece_len
  short_more most = omega (arith, most, f.short)

  whole_before : cur.ended ≡ false → AreBodies false bodies cur.ahead
  whole_before goes_on = subst (λ e. AreBodies e bodies cur.ahead) goes_on f.are

  not_idle : cur.ended ≡ false → old.ended ≡ true → ⊥
  not_idle goes_on ended = never cur.ended goes_on (f.idle ended).2

  -- one group more
  pub fill_more : cur.ended ≡ false → Advanced left1 left2 cur next → IsGroup next
      → length next.ahead ≤ max (length cur.ahead) piece_len
      → (next.ended ≡ true → IsAtEnd left2 × (next.ahead ≡ [])) → s1 ≤ s2
      → Filling old next left0 left2 s0 s2 (bodies ++ next.group ∷ [])
  fill_more goes_on advanced is_group most at_end stays =
      let more = joined-more bodies next.group in
      record {
        piece = f.piece ++ advanced.0;
        consumed = Consumes-trans left0 left1 left2 _ _ f.consumed advanced.1;
        parts = ap (λ front. front ++ next.ahead) more
            ∙ append_assoc (joined bodies) next.group next.ahead
            ∙ chain (joined bodies) cur.ahead old.ahead f.piece advanced.0 (next.group ++ next.ahead) f.parts
            advanced.2.joined;
        group_lines = f.group_lines;
        lines = advanced.2.lines ∙ f.lines;
        limit = advanced.2.limit ∙ f.limit;
        passed = omega (
          arith,
          advanced.2.passed,
          f.passed,
          ap length more,
          length-append (joined bodies) next.group,
        );
        within = omega (arith, advanced.2.within);
        are = bodies_more next.ended bodies next.group cur.ahead next.ahead (whole_before goes_on)
            (is_body advanced.2.lines is_group);
        short = short_more most;
        closed = λ e. (at_end e).1;
        at_end = λ _ e. (at_end e).0;
        idle = λ e. absurd (not_idle goes_on e);
        stays = omega (arith, f.stays, stays);
      }

  -- there is no further group
  pub window_over : Advanced left1 left2 cur next → IsOver next
      → (cur.ended ≡ false → next.ended ≡ true → IsAtEnd left2 × (next.ahead ≡ []))
      → (cur.ended ≡ true → left2 ≡ left1) → length bodies ≤ 8 → Windows (Ok false)
  window_over advanced over ended idle few =
      let left : [] ≡ cur.ahead ++ advanced.0 =
      sym (ap (λ g. g ++ next.ahead) over.group ∙ over.ahead) ∙ advanced.2.joined in
      record {
        piece = f.piece ++ advanced.0;
        tail = [];
        ended = true;
        behind = 0;
        consumed = Consumes-trans left0 left1 left2 _ _ f.consumed advanced.1;
        parts = chain (joined bodies) cur.ahead old.ahead f.piece advanced.0 [] f.parts left;
        are = bodies_over cur.ended bodies cur.ahead f.are f.closed;
        within = omega (arith, f.passed, f.within, f.limit);
        few = omega (arith, few);
        tail_few = inl (omega arith);
        closed = λ _. refl;
        at_end = λ is_open _. at_its_end cur.ended (f.at_end is_open) (λ e. (ended e over.ended).0) idle;
        idle = λ e. let before = f.idle e in (before.0, idle before.2 ∙ before.1, refl);
        stops = (refl, refl);
      }
    where
      at_its_end : (b : Bool) → (b ≡ true → IsAtEnd left1) → (b ≡ false → IsAtEnd left2) → (b ≡ true → left2 ≡ left1)
          → IsAtEnd left2
      at_its_end true before now same = subst IsAtEnd (sym (same refl)) (before refl)
      at_its_end false before now same = now refl

  no_group : (piece : List ℕ) → AreFewer cur.lines (cur.ahead ++ piece) → AreFewer 1000 (cur.ahead ++ piece)
  no_group piece fewer = omega (arith, fewer, f.lines, f.group_lines)

  -- Fewer lines than a group has came.
  window_short : (more : Result Bool ReadFault) → cur.ended ≡ false → (few : FallsShort cur left1 left2) → length bodies ≤ 7
      → EndsWindow old next s0 s2 (old.passed + length old.group + length (joined bodies)) (cur.ahead ++ few.piece)
      false more
      → Windows more
  window_short more goes_on few most stops = record {
    piece = f.piece ++ few.piece;
    tail = cur.ahead ++ few.piece;
    ended = false;
    behind = 1;
    consumed = Consumes-trans left0 left1 left2 _ _ f.consumed few.consumed;
    parts = chain (joined bodies) cur.ahead old.ahead f.piece few.piece (cur.ahead ++ few.piece) f.parts refl;
    are = bodies_whole false bodies cur.ahead (cur.ahead ++ few.piece) (whole_before goes_on);
    within = omega (arith, f.passed, f.within, f.limit);
    few = omega (arith, most);
    tail_few = inr (record {
      grouped = cur.ahead ++ few.piece;
      ahead = [];
      parts = sym (append-nil (cur.ahead ++ few.piece));
      lines = inl (no_group few.piece few.fewer);
      short = omega arith;
    });
    closed = λ e. absurd (never false refl e);
    at_end = λ _ e. absurd (never false refl e);
    idle = λ e. absurd (not_idle goes_on e);
    stops = stops;
  }

  -- The source failed, memory ran out, or the input is too long.
  pub window_failed : cur.ended ≡ false → (fault : ReadFault) → (fault ≡ faults.Long → IsTooLong cur left1 left2)
      → ((fault ≡ faults.Long → ⊥) → FallsShort cur left1 left2) → (fault ≡ faults.Failed → Rose s1 s2)
      → length bodies ≤ 7 → Windows (Err fault)
  window_failed goes_on faults.Failed long short failed most =
      let few = short (λ e. cc) in
      window_short (Err faults.Failed) goes_on few most
      (Rose-earlier s0 s1 s2 f.stays (failed refl), no_group few.piece few.fewer)
  window_failed goes_on faults.Memory long short failed most =
      window_short (Err faults.Memory) goes_on (short (λ e. cc)) most tt
  window_failed goes_on faults.Long long short failed most =
      let too = long refl in
      let fewer = no_group too.piece too.fewer in
      record {
        piece = f.piece ++ (too.piece ++ too.more);
        tail = (cur.ahead ++ too.piece) ++ too.more;
        ended = false;
        behind = 1;
        consumed = Consumes-trans left0 left1 left2 _ _ f.consumed too.consumed;
        parts = chain (joined bodies) cur.ahead old.ahead f.piece (too.piece ++ too.more)
            ((cur.ahead ++ too.piece) ++ too.more) f.parts (append_assoc cur.ahead too.piece too.more);
        are = bodies_whole false bodies cur.ahead ((cur.ahead ++ too.piece) ++ too.more) (whole_before goes_on);
        within = omega (arith, f.passed, f.within, f.limit);
        few = omega (arith, most);
        tail_few = inr (record {
          grouped = cur.ahead ++ too.piece;
          ahead = too.more;
          parts = refl;
          lines = inl fewer;
          short = omega (arith, too.one);
        });
        closed = λ e. absurd (never false refl e);
        at_end = λ _ e. absurd (never false refl e);
        idle = λ e. absurd (not_idle goes_on e);
        stops = record {
          front = cur.ahead ++ too.piece;
          last = too.more;
          are = refl;
          fewer = fewer;
          all = omega (arith, f.passed, f.limit, too.all, length-append cur.ahead too.piece);
          one = too.one;
        };
      }

  -- There was no memory for the group.
  pub window_unkept : cur.ended ≡ false → Advanced left1 left2 cur next → IsGroup next
      → length next.ahead ≤ max (length cur.ahead) piece_len → length bodies ≤ 7 → Windows (Err faults.Memory)
  window_unkept goes_on advanced is_group most few = record {
    piece = f.piece ++ advanced.0;
    tail = next.group ++ next.ahead;
    ended = false;
    behind = 1;
    consumed = Consumes-trans left0 left1 left2 _ _ f.consumed advanced.1;
    parts = chain (joined bodies) cur.ahead old.ahead f.piece advanced.0 (next.group ++ next.ahead) f.parts
        advanced.2.joined;
    are = bodies_whole false bodies cur.ahead (next.group ++ next.ahead) (whole_before goes_on);
    within = omega (arith, f.passed, f.within, f.limit);
    few = omega (arith, few);
    tail_few = inr (few_body next.ended 0 next.group next.ahead (is_body advanced.2.lines is_group)
        (inl (short_more most)));
    closed = λ e. absurd (never false refl e);
    at_end = λ _ e. absurd (never false refl e);
    idle = λ e. absurd (not_idle goes_on e);
    stops = tt;
  }

-- A window is full.
pub window_full : (old cur : Reading) (left0 left1 : Option (List ℕ)) (s0 s1 : ℕ) (bodies : List (List ℕ))
    → Filling old cur left0 left1 s0 s1 bodies → 0 < length bodies → length bodies ≤ 8
    → IsWindow old cur left0 left1 s0 s1 bodies (Ok true)
window_full old cur left0 left1 s0 s1 bodies f some few = record {
  piece = f.piece;
  tail = cur.ahead;
  ended = cur.ended;
  behind = 0;
  consumed = f.consumed;
  parts = f.parts;
  are = f.are;
  within = omega (arith, f.passed, f.within, f.limit);
  few = omega (arith, few);
  tail_few = inl f.short;
  closed = f.closed;
  at_end = f.at_end;
  idle = f.idle;
  stops = record {
    lines = f.lines;
    limit = f.limit;
    passed = f.passed;
    further = omega (arith, some_joined cur.ended bodies cur.ahead f.are some);
    ahead = refl;
    closes = refl;
    short = f.short;
  };
}

-- ---- groups whose lines are read in threads

pub bodies_by_index : (xs ys : List Group) → length ys ≡ length xs
    → ((i : ℕ) (d : Group) → i < length xs → (slice_index_or ys i d).body.items ≡ (slice_index_or xs i d).body.items)
    → bodies_of ys ≡ bodies_of xs
bodies_by_index [] [] same each = refl
bodies_by_index [] (y ∷ ys) same each = absurd (omega (arith, same))
bodies_by_index (x ∷ xs) [] same each = absurd (omega (arith, same))
bodies_by_index (x ∷ xs) (y ∷ ys) same each =
    let first : y.body.items ≡ x.body.items = each 0 x (omega arith) in
    let others = bodies_by_index xs ys (omega (arith, same)) (λ i d small. each (suc i) d (omega (arith, small))) in
    ap (λ body. body ∷ bodies_of ys) first ∙ ap (λ bodies. x.body.items ∷ bodies) others

pub read_by_index : (arrival : Arrival) (groups : List Group)
    → ((i : ℕ) (d : Group) → i < length groups → IsReadGroup arrival (slice_index_or groups i d))
    → AreReadGroups arrival groups
read_by_index arrival [] each = tt
read_by_index arrival (group ∷ groups) each = (
  each 0 group (omega arith),
  read_by_index arrival groups (λ i d small. each (suc i) d (omega (arith, small))),
)
