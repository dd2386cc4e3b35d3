-- The parsers of names, and of whole texts.
use Rattle.std.proofs.Common.{◌≡◌, ℕ, zero, suc, ◌+◌, ◌<◌, ◌≤◌, Bool, true, false, not, ◌&&◌, cond, List, [], ◌∷◌}
use Rattle.std.proofs.Common.{◌++◌, length, Option, Some, None, Result, Ok, Err, refl, sym, ap, ◌∙◌, subst, ◌⊎◌, inl}
use Rattle.std.proofs.Common.{inr, arith}
use Rattle.std.proofs.lemmas.Bool.{cond-true, cond-false, and_from}
use Rattle.std.proofs.lemmas.List.{append-nil}
use Rattle.grammar.specs.Rule.{Token}
use Rattle.grammar.specs.Spelling.{Flaw}
use Rattle.grammar.specs.Spelling.{too_deep}
use Rattle.grammar.specs.Rule.{Class, next, has, Grammar, Rule, empty, one, unless, both, either, many, checked, deeper}
use Rattle.grammar.specs.Spelling.{SameHead, Outcome, place, Span, Series, Spelled, Opened, Within, Named, ◌>>=◌}
use Rattle.grammar.specs.Spelling.{Spells, IsStuck}
use Rattle.grammar.specs.Reading.{nullable, first, Stop, stuck, flawed, Reader, Answer, read, read_name, end_at, whole}
use Rattle.grammar.specs.Reading.{as_read}
use Rattle.grammar.proofs.Sets.{inside, outside_next}
use Rattle.grammar.proofs.Table.{more, fits, least, plain, solid}
use Rattle.grammar.proofs.Complete.{begins, shorter, answer, complete}
use Rattle.grammar.proofs.Sound.{sound, taken, rest_is, chosen}
use Rattle.grammar.proofs.Good.{same_itself, PlaceIn, Goes, Begun, GoodAt, good_as, FlawIs}
use Rattle.grammar.proofs.Rules.{completes, good}

-- The place of a token before which the text is a prefix of some text of the rule.
pub record IsReached {X F A : Type 0} (S : Outcome F A → List (Token X) → Type 0) (u : List (Token X))
    (at : ℕ) : Type 0 where
  pub before : List (Token X)
  pub rest : List (Token X)
  pub parts : u ≡ before ++ rest
  pub inside : PlaceIn at before
  pub begins : (more : List (Token X)) × (r : Outcome F A) × S r (before ++ more)

-- what the result for a whole text tells about the text
abbrev pub Answers : {X F A : Type 0} → (Outcome F A → List (Token X) → Type 0) → List (Token X) → Result A (Stop F)
    → Type 0
Answers S u (Ok x) = S (Ok x) u
Answers {X} S u (Err (stuck left)) = (rest : List (Token X)) × (left ≡ length rest) × IsStuck S u rest
Answers S u (Err (flawed flaw at)) = IsReached S u at

abbrev grammar_of : {X F N V : Type 0} → (N → Class) → (N → Rule X F N V V) → Grammar X F N V
grammar_of heads rules = record { heads = heads; rules = rules }

-- ---- deeper nesting

lift_series : {X F A : Type 0} (P Q : Span X F A) → ((r : Outcome F A) (u w : List (Token X)) → P r u w → Q r u w)
    → (xs : List (Outcome F A)) (u w : List (Token X)) → Series P xs u w → Series Q xs u w
lift_series P Q up [] u w s = s
lift_series P Q up (x ∷ xs) u w (m, p, s) = (m, up x u m p, lift_series P Q up xs m w s)

module _ {X F N V : Type 0} (P Q : N → Span X F V) (up : (n : N) (r : Outcome F V) (u w : List (Token X)) → P n r u w
    → Q n r u w) where
  pub lift : {A : Type 0} (e : Rule X F N V A) (r : Outcome F A) (u w : List (Token X)) → Spelled P e r u w
      → Spelled Q e r u w
  lift (empty x) r u w s = s
  lift (one class f) r u w s = s
  lift (unless class x) r u w s = s
  lift (both f a b) r u w (x, y, m, p, q, is) = (x, y, m, lift a x u m p, lift b y m w q, is)
  lift (either a b) r u w (inl s) = inl (lift a r u w s)
  lift (either a b) r u w (inr s) = inr (lift b r u w s)
  lift (many f a) r u w (xs, s, is) = (xs, lift_series (Spelled P a) (Spelled Q a) (lift a) xs u w s, is)
  lift (checked f a) r u w (p, s, is) = (p, lift a p u w s, is)
  lift (deeper n f) r u w (p, s, is) = (p, up n p u w s, is)

module _ {X F N V : Type 0} (heads : N → Class) (rules : N → Rule X F N V V) where
  abbrev At : ℕ → ℕ → N → Span X F V
  At height depth = Within heads rules height depth

  abbrev pub Some_at : ℕ → N → Span X F V
  Some_at = Named heads rules

  lift_opened : (P Q : N → Span X F V) → ((n : N) (r : Outcome F V) (u w : List (Token X)) → P n r u w → Q n r u w)
      → (n : N) (r : Outcome F V) (u w : List (Token X)) → Opened heads rules P n r u w → Opened heads rules Q n r u w
  lift_opened P Q up n r u w (t, m, is, h, s) = (t, m, is, h, lift P Q up (rules n) r m w s)

  higher : (h k depth : ℕ) → h ≤ k → (n : N) (r : Outcome F V) (u w : List (Token X)) → At h depth n r u w
      → At k depth n r u w
  higher zero k depth le n r u w s = absurd s
  higher (suc h) zero depth le n r u w s = absurd (omega arith)
  higher (suc h) (suc k) zero le n r u w (is, p, s) =
      (is, p, lift_opened (At h zero) (At k zero) (higher h k zero (omega arith)) n p u w s)
  higher (suc h) (suc k) (suc depth) le n r u w s = lift_opened (At h depth) (At k depth)
      (higher h k depth (omega arith)) n r u w s

  raise : {A : Type 0} (e : Rule X F N V A) (h k depth : ℕ) → h ≤ k → (r : Outcome F A) (u w : List (Token X))
      → Spelled (At h depth) e r u w → Spelled (At k depth) e r u w
  raise e h k depth le r u w s = lift (At h depth) (At k depth) (higher h k depth le) e r u w s

  collect_series : {A : Type 0} (e : Rule X F N V A) (depth : ℕ)
      → ((r : Outcome F A) (u w : List (Token X)) → Spelled (Some_at depth) e r u w → (h : ℕ)
      × Spelled (At h depth) e r u w)
      → (xs : List (Outcome F A)) (u w : List (Token X)) → Series (Spelled (Some_at depth) e) xs u w → (h : ℕ)
      × Series (Spelled (At h depth) e) xs u w
  collect_series e depth each [] u w s = (zero, s)
  collect_series e depth each (x ∷ xs) u w (m, p, s) =
      let a = each x u m p in
      let b = collect_series e depth each xs m w s in (
        a.0 + b.0,
        (
          m,
          raise e a.0 (a.0 + b.0) depth (omega arith) x u m a.1,
          lift_series (Spelled (At b.0 depth) e) (Spelled (At (a.0 + b.0) depth) e)
              (raise e b.0 (a.0 + b.0) depth (omega arith)) xs m w b.1,
        ),
      )

  pub collect : {A : Type 0} (e : Rule X F N V A) (depth : ℕ) (r : Outcome F A) (u w : List (Token X))
      → Spelled (Some_at depth) e r u w → (h : ℕ) × Spelled (At h depth) e r u w
  collect (empty x) depth r u w s = (zero, s)
  collect (one class f) depth r u w s = (zero, s)
  collect (unless class x) depth r u w s = (zero, s)
  collect (both f a b) depth r u w (x, y, m, p, q, is) =
      let c = collect a depth x u m p in
      let d = collect b depth y m w q in (
        c.0 + d.0,
        (
          x,
          y,
          m,
          raise a c.0 (c.0 + d.0) depth (omega arith) x u m c.1,
          raise b d.0 (c.0 + d.0) depth (omega arith) y m w d.1,
          is,
        ),
      )
  collect (either a b) depth r u w (inl s) = let c = collect a depth r u w s in (c.0, inl c.1)
  collect (either a b) depth r u w (inr s) = let c = collect b depth r u w s in (c.0, inr c.1)
  collect (many f a) depth r u w (xs, s, is) = let c =
      collect_series a depth (collect a depth) xs u w s in (c.0, (xs, c.1, is))
  collect (checked f a) depth r u w (p, s, is) = let c = collect a depth p u w s in (c.0, (p, c.1, is))
  collect (deeper n f) depth r u w (p, s, is) = (s.0, (p, s.1, is))

  -- ---- a name reads the token that opens it

  pub starts_at : (h depth : ℕ) (n : N) (r : Outcome F V) (u w : List (Token X)) → At h depth n r u w
      → (length w < length u) × (next (heads n) u ≡ true)
  starts_at zero depth n r u w s = absurd s
  starts_at (suc h) zero n r u w (is, p, (t, m, parts, head, s)) =
      let b = shorter (first heads (rules n)) (nullable (rules n)) m w
      (begins heads (At h zero) (starts_at h zero) (rules n) p m w s) in
      (omega (arith, b, ap length parts), ap (next (heads n)) parts ∙ head)
  starts_at (suc h) (suc depth) n r u w (t, m, parts, head, s) =
      let b = shorter (first heads (rules n)) (nullable (rules n)) m w
      (begins heads (At h depth) (starts_at h depth) (rules n) r m w s) in
      (omega (arith, b, ap length parts), ap (next (heads n)) parts ∙ head)

  abbrev starts : (depth : ℕ) (n : N) (r : Outcome F V) (u w : List (Token X)) → Some_at depth n r u w
      → (length w < length u) × (next (heads n) u ≡ true)
  starts depth n r u w s = starts_at s.0 depth n r u w s.1

  -- ---- with the tests

  module _ (ends shuts : N → Class) (sample : Class → Token X)
      (fit : (n : N) → fits heads ends (rules n) ≡ true)
      (ends_in : (n : N) → inside (more false heads ends (rules n)) (ends n) ≡ true) where
    pub known_at : (h depth : ℕ) (n : N) (r : Outcome F V) (u w : List (Token X)) → At h depth n r u w
        → next (ends n) w ≡ false → read_name heads rules depth n u ≡ answer w r
    unfolding read_name
    known_at zero depth n r u w s clear = absurd s
    known_at (suc h) zero n r u w s clear =
        cond-true (next (heads n) u) (Err (flawed too_deep (place u))) (Err (stuck (length u)))
        (starts_at (suc h) zero n r u w s).1 ∙ ap (answer w) (sym s.0)
    known_at (suc h) (suc depth) n r u w (t, m, parts, head, s) clear =
        ap (read_name heads rules (suc depth) n) parts ∙ cond-true (has (heads n) t)
        (read heads (read_name heads rules depth) (rules n) m) (Err (stuck (suc (length m)))) head
        ∙ complete heads (At h depth) (starts_at h depth) ends (read_name heads rules depth) (known_at h depth) (rules n)
        (fit n) r m w s (outside_next (more false heads ends (rules n)) (ends n) w (ends_in n) clear)

    -- the parser reads every text that the rule spells
    pub spells_read : {A : Type 0} (e : Rule X F N V A) → fits heads ends e ≡ true
        → (depth : ℕ) (r : Outcome F A) (u : List (Token X)) → Spells (grammar_of heads rules) depth e r u
        → read heads (read_name heads rules depth) e u ≡ answer [] r
    spells_read e f depth r u s = complete heads (At s.0 depth) (starts_at s.0 depth) ends (read_name heads rules depth)
        (known_at s.0 depth) e f r u [] s.1 refl

  pub sound_name : (depth : ℕ) (n : N) (v : V) (u w : List (Token X)) → read_name heads rules depth n u ≡ Ok (v, w)
      → Some_at depth n (Ok v) u w
  unfolding read_name
  sound_name zero n v u w e = by_case (chosen (next (heads n) u) (Err (flawed too_deep (place u)))
      (Err (stuck (length u))) (Ok (v, w)) e)
    where
      by_case : ((next (heads n) u ≡ true) × (Err (flawed too_deep (place u)) ≡ taken {F = F} v w))
          ⊎ ((next (heads n) u ≡ false) × (Err (stuck (length u)) ≡ taken {F = F} v w)) → Some_at zero n (Ok v) u w
      by_case (inl h) = absurd cc
      by_case (inr h) = absurd cc
  sound_name (suc depth) n v [] w e = absurd cc
  sound_name (suc depth) n v (t ∷ ts) w e =
      by_case (chosen (has (heads n) t) (read heads (read_name heads rules depth) (rules n) ts)
      (Err (stuck (suc (length ts)))) (Ok (v, w)) e)
      (λ e. collect (rules n) depth (Ok v) ts w (sound heads (Some_at depth) (read_name heads rules depth)
      (sound_name depth) (rules n) v ts w e))
    where
      by_case : ((has (heads n) t ≡ true) × (read heads (read_name heads rules depth) (rules n) ts ≡ Ok (v, w)))
          ⊎ ((has (heads n) t ≡ false) × (Err (stuck (suc (length ts))) ≡ taken {F = F} v w))
          → (read heads (read_name heads rules depth) (rules n) ts ≡ Ok (v, w) → (h : ℕ)
          × Spelled (At h depth) (rules n) (Ok v) ts w) → Some_at (suc depth) n (Ok v) (t ∷ ts) w
      by_case (inl h) behind = let s = behind h.1 in (suc s.0, (t, ts, refl, h.0, s.1))
      by_case (inr h) behind = absurd cc

  -- ---- where the parser stops

  module _ (ends shuts : N → Class) (sample : Class → Token X)
      (fit : (n : N) → fits heads ends (rules n) ≡ true)
      (ends_in : (n : N) → inside (more false heads ends (rules n)) (ends n) ≡ true)
      (shuts_in : (n : N) → inside (more true heads shuts (rules n)) (shuts n) ≡ true)
      (head_is : (n : N) → has (heads n) (sample (heads n)) ≡ true) (is_plain : (n : N) → plain (rules n) ≡ true) where
    abbrev no_leasts : N → List (Token X)
    no_leasts n = []

    abbrev pub leasts : N → List (Token X)
    leasts n = sample (heads n) ∷ least sample no_leasts (rules n)

    module _ (plain_solid : (n : N) → solid sample no_leasts heads shuts (rules n) ≡ true)
        (is_solid : (n : N) → solid sample leasts heads shuts (rules n) ≡ true) where
      -- after a token that opens a name, at any depth
      rest_least : (depth : ℕ) (n : N) (w : List (Token X)) → next (shuts n) w ≡ false → (o : Outcome F V)
          × Spelled (At zero depth) (rules n) o (least sample no_leasts (rules n) ++ w) w
      rest_least depth n w clear = completes heads (At zero depth) (starts_at zero depth) sample no_leasts shuts
          (rules n) (plain_solid n) (inl (is_plain n)) w
          (outside_next (more true heads shuts (rules n)) (shuts n) w (shuts_in n) clear)

      least_name : (depth : ℕ) (n : N) (w : List (Token X)) → next (shuts n) w ≡ false → (o : Outcome F V)
          × Some_at depth n o (leasts n ++ w) w
      least_name zero n w clear =
          let s = rest_least zero n w clear in (
            Err (too_deep, place (leasts n ++ w)),
            (suc zero, (refl, s.0, (sample (heads n), least sample no_leasts (rules n) ++ w, refl, head_is n, s.1))),
          )
      least_name (suc depth) n w clear =
          let s = rest_least depth n w clear in
          (s.0, (suc zero, (sample (heads n), least sample no_leasts (rules n) ++ w, refl, head_is n, s.1)))

      -- the token that opens a name, and the rest
      abbrev entered : N → Rule X F N V V
      entered n = both (λ _ x. x) (one (heads n) (λ t. t)) (rules n)

      again_ok : {A E : Type 0} (r : Result A E) → (r >>= λ x. Ok x) ≡ r
      again_ok (Ok x) = refl
      again_ok (Err e) = refl

      reads_entered : (depth : ℕ) (n : N) (u : List (Token X))
          → read_name heads rules (suc depth) n u ≡ read heads (read_name heads rules depth) (entered n) u
      unfolding read_name
      reads_entered depth n [] = refl
      reads_entered depth n (t ∷ ts) = by_test (has (heads n) t)
        where
          by_test : (b : Bool) → cond b (read heads (read_name heads rules depth) (rules n) ts)
              (Err (stuck (suc (length ts))))
              ≡ (cond b (taken t ts) (Err (stuck (suc (length ts)))) >>= λ x. read heads (read_name heads rules depth)
              (rules n) x.1 >>= λ y. Ok (y.0, y.1))
          by_test true = sym (again_ok (read heads (read_name heads rules depth) (rules n) ts))
          by_test false = refl

      enters : (depth : ℕ) (n : N) (o : Outcome F V) (u w : List (Token X))
          → Spelled (Some_at depth) (entered n) o u w → Some_at (suc depth) n o u w
      enters depth n o u w (p, q, m, (t, parts, head, is), s, e) =
          let same : o ≡ q = e ∙ ap (λ (p : Outcome F (Token X)). p >>= λ x. q >>= λ y. Ok y) is ∙ again_ok q in
          let c = collect (rules n) depth q m w s in (
            suc c.0,
            (
              t,
              m,
              parts,
              head,
              subst (λ (r : Outcome F V). Spelled (At c.0 depth) (rules n) r m w)
                  (sym same) c.1,
            ),
          )

      next_none : (l : List (Token X)) → next [] l ≡ false
      next_none [] = refl
      next_none (t ∷ ts) = refl

      cond_same : {A : Type 0} (b : Bool) (x : A) → cond b x x ≡ x
      cond_same true x = refl
      cond_same false x = refl

      append_none : (c : Class) (w : List (Token X)) → next c w ≡ false → (b : Bool)
          → next (c ++ cond b [] []) w ≡ false
      append_none c w e b = by_case (cond b [] []) (cond_same b [])
        where
          by_case : (d : Class) → d ≡ [] → next (c ++ d) w ≡ false
          by_case d is = subst (λ (d : Class). next (c ++ d) w ≡ false) (sym is)
              (ap (λ (k : Class). next k w) (append-nil c) ∙ e)

      entered_fits : (n : N) → fits heads ends (entered n) ≡ true
      entered_fits n = and_from (fits heads ends (rules n)) true (fit n) refl

      entered_solid : (n : N) → solid sample leasts heads shuts (entered n) ≡ true
      entered_solid n = and_from (has (heads n) (sample (heads n)))
          (solid sample leasts heads shuts (rules n) && not (next [] (least sample leasts (rules n)))) (head_is n)
          (and_from (solid sample leasts heads shuts (rules n)) (not (next [] (least sample leasts (rules n))))
          (is_solid n) (ap not (next_none (least sample leasts (rules n)))))

      good_name : (depth : ℕ) (n : N) (u : List (Token X))
          → GoodAt (read_name heads rules depth n) (Some_at depth n) (shuts n) u (read_name heads rules depth n u)
      unfolding read_name
      good_name zero n [] = record { text = []; left = []; parts = refl; again = again; viable = inl refl }
        where
          again : (other : List (Token X)) → SameHead [] other
              → read_name heads rules zero n other ≡ Err (stuck (length other))
          again [] same = refl
          again (t ∷ ts) same = absurd same
      good_name zero n (t ∷ ts) = by_test (has (heads n) t) refl
        where
          by_test : (b : Bool) → has (heads n) t ≡ b → GoodAt (read_name heads rules zero n) (Some_at zero n) (shuts n)
              (t ∷ ts) (cond b (Err (flawed too_deep t.place)) (Err (stuck (suc (length ts)))))
          by_test true e = record {
            text = t ∷ [];
            left = ts;
            parts = refl;
            again = λ other same. cond-true (has (heads n) t) (Err (flawed too_deep t.place))
                (Err (stuck (suc (length other)))) e;
            viable = (
              record {
                head = t;
                tail = [];
                some = refl;
                rest = least sample no_leasts (rules n);
                spelled = λ w clear. let s = rest_least zero n w clear in (
                  Err (too_deep, t.place),
                  refl,
                  (suc zero, (refl, s.0, (t, least sample no_leasts (rules n) ++ w, refl, e, s.1))),
                );
              },
              record { before = []; token = t; behind = []; parts = refl; place_is = refl },
            );
          }
          by_test false e = record { text = []; left = t ∷ ts; parts = refl; again = again; viable = inl refl }
            where
              again : (other : List (Token X)) → SameHead (t ∷ ts) other
                  → read_name heads rules zero n other ≡ Err (stuck (length other))
              again [] same = absurd same
              again (x ∷ xs) same = cond-false (has (heads n) x) (Err (flawed too_deep x.place))
                  (Err (stuck (suc (length xs)))) (ap (has (heads n)) (sym same) ∙ e)
      good_name (suc depth) n u =
          good_as (read heads (read_name heads rules depth) (entered n)) (read_name heads rules (suc depth) n)
          (Spelled (Some_at depth) (entered n)) (Some_at (suc depth) n) (more true heads shuts (entered n)) (shuts n)
          (reads_entered depth n) (enters depth n)
          (λ w clear. append_none (more true heads shuts (rules n)) w
          (outside_next (more true heads shuts (rules n)) (shuts n) w (shuts_in n) clear) (nullable (rules n))) u
          (good heads (Some_at depth) (starts depth) sample leasts shuts ends (read_name heads rules depth)
          (sound_name depth) (good_name depth) (least_name depth) (entered n) (entered_fits n) (entered_solid n) u)

      -- ---- whole texts

      module _ {A : Type 0} (e : Rule X F N V A) (fit_e : fits heads ends e ≡ true)
          (solid_e : solid sample leasts heads shuts e ≡ true) (depth : ℕ) where
        abbrev Text : Outcome F A → List (Token X) → Type 0
        Text = Spells (grammar_of heads rules) depth e

        abbrev text_at : Reader X F A
        text_at = read heads (read_name heads rules depth) e

        spelled_text : (o : Outcome F A) (u : List (Token X)) → Spelled (Some_at depth) e o u [] → Text o u
        spelled_text o u s = collect e depth o u [] s

        read_text : (o : Outcome F A) (u : List (Token X)) → Text o u → text_at u ≡ answer [] o
        read_text o u s = spells_read ends shuts sample fit ends_in e fit_e depth o u s

        no_rest : (o : Outcome F A) (x : A) (t : Token X) (ts : List (Token X)) → answer [] o ≡ taken x (t ∷ ts) → ⊥
        no_rest (Ok y) x t ts h = let same = rest_is y x [] (t ∷ ts) h in cc
        no_rest (Err flaw) x t ts h = cc

        not_stuck : (o : Outcome F A) (n : ℕ) → answer {X = X} [] o ≡ Err (stuck n) → ⊥
        not_stuck (Ok y) n h = cc
        not_stuck (Err flaw) n h = cc

        begun : (u text : List (Token X)) (flaw : Option (Flaw F × ℕ))
            → Begun text_at (Spelled (Some_at depth) e) (more true heads shuts e) u flaw text
            → (more : List (Token X)) × (o : Outcome F A) × FlawIs flaw o × Text o (text ++ more)
        begun u text flaw b = let s = b.spelled [] refl in
            (b.rest ++ [], s.0, s.1, spelled_text s.0 (text ++ (b.rest ++ [])) s.2)

        nothing_begun : (text : List (Token X)) → text ≡ [] → (more : List (Token X)) × (o : Outcome F A)
            × Text o (text ++ more)
        nothing_begun text is =
            let s = completes heads (Some_at depth) (starts depth) sample leasts shuts e solid_e
            (inr (least_name depth)) [] refl in (
              least sample leasts e ++ [],
              s.0,
              spelled_text s.0 (text ++ (least sample leasts e ++ []))
                  (subst (λ (l : List (Token X)). Spelled (Some_at depth) e s.0 (l ++ (least sample leasts e ++ [])) [])
                  (sym is) s.1),
            )

        stuck_begun : (u text : List (Token X)) → (text ≡ [])
            ⊎ Begun text_at (Spelled (Some_at depth) e) (more true heads shuts e) u None text
            → (more : List (Token X)) × (o : Outcome F A) × Text o (text ++ more)
        stuck_begun u text (inl h) = nothing_begun text h
        stuck_begun u text (inr h) = let b = begun u text None h in (b.0, b.1, b.3)

        abbrev stopped : Stop F → Answer X F A
        stopped stop = Err stop

        stuck_count : (n m : ℕ) → stopped (stuck n) ≡ stopped (stuck m) → n ≡ m
        stuck_count n m h = cc

        pub answers : (u : List (Token X)) → Answers Text u (whole text_at u)
        answers u = by_case (text_at u) refl (good heads (Some_at depth) (starts depth) sample leasts shuts ends
            (read_name heads rules depth) (sound_name depth) (good_name depth) (least_name depth) e fit_e solid_e u)
          where
            by_end : (x : A) (w : List (Token X)) → text_at u ≡ Ok (x, w)
                → Goes text_at (Spelled (Some_at depth) e) (more true heads shuts e) u x w → Answers Text u (end_at x w)
            by_end x [] is g = spelled_text (Ok x) u
                (sound heads (Some_at depth) (read_name heads rules depth) (sound_name depth) e x u [] is)
            by_end x (t ∷ ts) is g = (
              t ∷ ts,
              refl,
              record {
                before = g.text;
                parts = g.parts;
                begins = (
                  [],
                  Ok x,
                  spelled_text (Ok x) (g.text ++ [])
                      (sound heads (Some_at depth) (read_name heads rules depth) (sound_name depth) e x (g.text ++ []) []
                      (g.again [] (inr refl))),
                );
                longest = longest;
              },
            )
              where
                longest : (more : List (Token X)) (o : Outcome F A) → SameHead (t ∷ ts) more
                    → Text o (g.text ++ more) → ⊥
                longest [] o same s = same
                longest (y ∷ more) o same s = no_rest o x y more
                    (sym (read_text o (g.text ++ y ∷ more) s) ∙ g.again (y ∷ more) (inl same))

            by_case : (a : Answer X F A) → text_at u ≡ a
                → GoodAt text_at (Spelled (Some_at depth) e) (more true heads shuts e) u a
                → Answers Text u (a >>= λ x. end_at x.0 x.1)
            by_case (Ok x) is g = by_end x.0 x.1 is g
            by_case (Err (stuck n)) is g = (
              g.left,
              stuck_count n (length g.left) (sym is ∙ ap text_at g.parts ∙ g.again g.left (same_itself g.left)),
              record {
                before = g.text;
                parts = g.parts;
                begins = stuck_begun u g.text g.viable;
                longest = λ more o same s. not_stuck o (length more)
                    (sym (read_text o (g.text ++ more) s) ∙ g.again more same);
              },
            )
            by_case (Err (flawed flaw at)) is g = record {
              before = g.text;
              rest = g.left;
              parts = g.parts;
              inside = g.viable.1;
              begins = let b = begun u g.text (Some (flaw, at)) g.viable.0 in (b.0, b.1, b.3);
            }

        pub only : (o : Outcome F A) (u : List (Token X)) → Text o u → whole text_at u ≡ as_read o
        only o u s = ap (λ (a : Answer X F A). a >>= λ x. end_at x.0 x.1) (read_text o u s) ∙ by_case o
          where
            by_case : (o : Outcome F A) → (answer {X = X} [] o >>= λ x. end_at x.0 x.1) ≡ as_read o
            by_case (Ok x) = refl
            by_case (Err flaw) = refl
