-- What each parser satisfies: only the tokens up to the next one matter, and some text of the rule continues where it
-- stops.
use Rattle.std.proofs.Common.{◌≡◌, ℕ, ◌<◌, Bool, true, false, cond, List, [], ◌∷◌, ◌++◌, length, Option, Some, None}
use Rattle.std.proofs.Common.{Result, Ok, Err, refl, sym, ap, ◌∙◌, subst, ◌⊎◌, inl, inr, arith, append_assoc}
use Rattle.std.proofs.lemmas.Bool.{cond-true}
use Rattle.grammar.specs.Rule.{Token}
use Rattle.grammar.specs.Spelling.{Flaw, refused}
use Rattle.grammar.specs.Rule.{Class, next, has}
use Rattle.grammar.specs.Spelling.{SameHead, Outcome, outcome_at, place, Span, ◌>>=◌}
use Rattle.grammar.specs.Reading.{Stop, stuck, flawed, Reader, Answer, check_value}
use Rattle.grammar.proofs.Sets.{out_left, out_right}

pub same_itself : {X : Type 0} → (u : List (Token X)) → SameHead u u
same_itself [] = tt
same_itself (t ∷ ts) = refl

pub same_behind : {X : Type 0} → (text a b : List (Token X)) → SameHead a b → SameHead (text ++ a) (text ++ b)
same_behind [] a b h = h
same_behind (x ∷ text) a b h = refl

pub same_next : {X : Type 0} → (c : Class) (a b : List (Token X)) → SameHead a b → next c a ≡ next c b
same_next c [] [] h = refl
same_next c [] (y ∷ b) h = absurd h
same_next c (x ∷ a) [] h = absurd h
same_next c (x ∷ a) (y ∷ b) h = ap (has c) h

pub same_place : {X : Type 0} → (a b : List (Token X)) → SameHead a b → place a ≡ place b
same_place [] [] h = refl
same_place [] (y ∷ b) h = absurd h
same_place (x ∷ a) [] h = absurd h
same_place {X} (x ∷ a) (y ∷ b) h = ap (λ (t : Token X). t.place) h

-- what may replace the rest
abbrev pub Near : {X : Type 0} → Class → List (Token X) → List (Token X) → Type 0
Near c w other = SameHead w other ⊎ (next c other ≡ false)

abbrev pub moved : {X F : Type 0} → Stop F → List (Token X) → Stop F
moved (stuck n) other = stuck (length other)
moved (flawed flaw at) other = flawed flaw at

abbrev pub FlawIs : {F A : Type 0} → Option (Flaw F × ℕ) → Outcome F A → Type 0
FlawIs None o = Unit {0}
FlawIs (Some flaw) o = o ≡ Err flaw

pub still_flawed : {F A B : Type 0} (flaw : Option (Flaw F × ℕ)) (o : Outcome F A) (f : A → Outcome F B)
    → FlawIs flaw o → FlawIs flaw (o >>= f)
still_flawed None o f h = tt
still_flawed {F} (Some flaw) o f h = ap (λ (p : Outcome F _). p >>= f) h

-- the place of one of the tokens
pub record PlaceIn {X : Type 0} (at : ℕ) (text : List (Token X)) : Type 0 where
  pub before : List (Token X)
  pub token : Token X
  pub behind : List (Token X)
  pub parts : text ≡ before ++ token ∷ behind
  pub place_is : at ≡ token.place

pub place_behind : {X : Type 0} → (at : ℕ) (before text : List (Token X)) → PlaceIn at text
    → PlaceIn at (before ++ text)
place_behind {X} at before text p = record {
  before = before ++ p.before;
  token = p.token;
  behind = p.behind;
  parts =
      ap (λ (l : List (Token X)). before ++ l) p.parts ∙ sym (append_assoc before p.before (p.token ∷ p.behind));
  place_is = p.place_is;
}

pub place_ahead : {X : Type 0} (at : ℕ) (text behind : List (Token X)) → PlaceIn at text → PlaceIn at (text ++ behind)
place_ahead {X} at text behind p = record {
  before = p.before;
  token = p.token;
  behind = p.behind ++ behind;
  parts = ap (λ (l : List (Token X)). l ++ behind) p.parts ∙ append_assoc p.before (p.token ∷ p.behind) behind;
  place_is = p.place_is;
}

module _ {X F A : Type 0} (r : Reader X F A) (P : Span X F A) (c : Class) (u : List (Token X)) where
  pub record Goes (x : A) (w : List (Token X)) : Type 0 where
    pub text : List (Token X)
    pub parts : u ≡ text ++ w
    pub again : (other : List (Token X)) → Near c w other → r (text ++ other) ≡ Ok (x, other)

  -- some text begins like this, with anything that may follow, and has this first flaw, if one is given
  pub record Begun (flaw : Option (Flaw F × ℕ)) (text : List (Token X)) : Type 0 where
    pub head : Token X
    pub tail : List (Token X)
    pub some : text ≡ head ∷ tail
    pub rest : List (Token X)
    pub spelled : (w : List (Token X)) → next c w ≡ false → (o : Outcome F A) × FlawIs flaw o
        × P o (text ++ (rest ++ w)) w

  -- nothing was read, or some text begins like this; an item with the flaw was read
  abbrev pub Viable : Stop F → List (Token X) → Type 0
  Viable (stuck n) text = (text ≡ []) ⊎ Begun None text
  Viable (flawed flaw at) text = Begun (Some (flaw, at)) text × PlaceIn at text

  pub record Halts (stop : Stop F) : Type 0 where
    pub text : List (Token X)
    pub left : List (Token X)
    pub parts : u ≡ text ++ left
    pub again : (other : List (Token X)) → SameHead left other → r (text ++ other) ≡ Err (moved stop other)
    pub viable : Viable stop text

  abbrev pub GoodAt : Answer X F A → Type 0
  GoodAt (Ok x) = Goes x.0 x.1
  GoodAt (Err stop) = Halts stop

-- the same for a text that ends with this one
pub viable_as : {X F A B : Type 0} (r : Reader X F A) (P : Span X F A) (c : Class) (u : List (Token X))
    (s : Reader X F B) (Q : Span X F B) (d : Class) (v : List (Token X)) (text longer : List (Token X))
    → (text ≡ [] → (longer ≡ []) ⊎ Begun s Q d v None longer)
    → ((flaw : Option (Flaw F × ℕ)) → Begun r P c u flaw text → Begun s Q d v flaw longer)
    → ((at : ℕ) → PlaceIn at text → PlaceIn at longer)
    → (stop : Stop F) → Viable r P c u stop text → Viable s Q d v stop longer
viable_as r P c u s Q d v text longer none some place (stuck n) (inl h) = none h
viable_as r P c u s Q d v text longer none some place (stuck n) (inr h) = inr (some None h)
viable_as r P c u s Q d v text longer none some place (flawed flaw at) h = (some (Some (flaw, at)) h.0, place at h.1)

-- ---- an equal parser, for more texts

module _ {X F A : Type 0} (r s : Reader X F A) (P Q : Span X F A) (c d : Class)
    (same : (u : List (Token X)) → s u ≡ r u) (more : (o : Outcome F A) (u w : List (Token X)) → P o u w → Q o u w)
    (wider : (w : List (Token X)) → next d w ≡ false → next c w ≡ false) where
  wider_near : (w other : List (Token X)) → Near d w other → Near c w other
  wider_near w other (inl h) = inl h
  wider_near w other (inr h) = inr (wider other h)

  wider_begun : (u text : List (Token X)) (flaw : Option (Flaw F × ℕ)) → Begun r P c u flaw text
      → Begun s Q d u flaw text
  wider_begun u text flaw h = record {
    head = h.head;
    tail = h.tail;
    some = h.some;
    rest = h.rest;
    spelled =
        λ w clear. let o = h.spelled w (wider w clear) in (o.0, o.1, more o.0 (text ++ (h.rest ++ w)) w o.2);
  }

  pub good_as : (u : List (Token X)) → GoodAt r P c u (r u) → GoodAt s Q d u (s u)
  good_as u good = subst (GoodAt s Q d u) (sym (same u)) (by_case (r u) good)
    where
      by_case : (a : Answer X F A) → GoodAt r P c u a → GoodAt s Q d u a
      by_case (Ok x) g = record {
        text = g.text;
        parts = g.parts;
        again = λ other near. same (g.text ++ other)
            ∙ g.again other (wider_near x.1 other near);
      }
      by_case (Err stop) g = record {
        text = g.text;
        left = g.left;
        parts = g.parts;
        again =
            λ other near. same (g.text ++ other) ∙ g.again other near;
        viable =
            viable_as r P c u s Q d u g.text g.text inl (wider_begun u g.text) (λ at p. p) stop g.viable;
      }

-- ---- checked values

abbrev pub IsErr : {A E : Type 0} → Result A E → Type 0
IsErr (Ok x) = ⊥
IsErr (Err e) = Unit {0}

abbrev pub checks : {X F A B : Type 0} → (A → Result B F) → Reader X F A → Reader X F B
checks f r u = r u >>= λ x. check_value (place u) x.1 (f x.0)

abbrev pub Checked : {X F A B : Type 0} → (A → Result B F) → Span X F A → Span X F B
Checked {X} {F} {A} f P o u w = (p : Outcome F A) × P p u w × (o ≡ (p >>= λ x. outcome_at (f x) (place u)))

module _ {X F A B : Type 0} (f : A → Result B F) (r : Reader X F A) (P : Span X F A) (c : Class)
    (sound : (u : List (Token X)) (x : A) (w : List (Token X)) → r u ≡ Ok (x, w) → P (Ok x) u w)
    (some : (u : List (Token X)) (x : A) (w : List (Token X)) → r u ≡ Ok (x, w) → IsErr (f x) → length w < length u)
  where
    checked_begun : (u text : List (Token X)) (flaw : Option (Flaw F × ℕ)) → Begun r P c u flaw text
        → Begun (checks f r) (Checked f P) c u flaw text
    checked_begun u text flaw h = record {
      head = h.head;
      tail = h.tail;
      some = h.some;
      rest = h.rest;
      spelled = λ w clear.
          let o = h.spelled w clear in
          let at = place (text ++ (h.rest ++ w)) in
          ((o.0 >>= λ x. outcome_at (f x) at), still_flawed flaw o.0 (λ x. outcome_at (f x) at) o.1, (o.0, o.2, refl));
    }

    -- all of it was read, and its value has a flaw
    whole_begun : (u text : List (Token X)) (x : A) (w : List (Token X)) (reason : F) → f x ≡ Err reason
        → u ≡ text ++ w → length w < length u → ((w : List (Token X)) → next c w ≡ false → r (text ++ w) ≡ Ok (x, w))
        → Viable (checks f r) (Checked f P) c u (flawed (refused reason) (place u)) text
    whole_begun u [] x w reason e parts less again = absurd (omega (arith, less, ap length parts))
    whole_begun u (t ∷ ts) x w reason e parts less again = (
      record {
        head = t;
        tail = ts;
        some = refl;
        rest = [];
        spelled =
            λ w clear. (
              outcome_at (f x) t.place,
              ap (λ (q : Result B F). outcome_at q t.place) e
                  ∙ ap (λ (at : ℕ). Err (refused reason, at)) (sym (ap place parts)),
              (Ok x, sound ((t ∷ ts) ++ w) x w (again w clear), refl),
            );
      },
      record { before = []; token = t; behind = ts; parts = refl; place_is = ap place parts },
    )

    pub good_checked : (u : List (Token X)) → GoodAt r P c u (r u)
        → GoodAt (checks f r) (Checked f P) c u (checks f r u)
    good_checked u good = by_case (r u) refl good
      where
        by_value : (x : A) (w : List (Token X)) → r u ≡ Ok (x, w) → Goes r P c u x w → (q : Result B F) → f x ≡ q
            → GoodAt (checks f r) (Checked f P) c u (check_value (place u) w q)
        by_value x w was g (Ok y) e = record {
          text = g.text;
          parts = g.parts;
          again =
              λ other near. ap (λ (a : Answer X F A). a >>= λ x. check_value (place (g.text ++ other)) x.1 (f x.0))
              (g.again other near) ∙ ap (check_value (place (g.text ++ other)) other) e;
        }
        by_value x w was g (Err reason) e = record {
          text = g.text;
          left = w;
          parts = g.parts;
          again = λ other same. ap (λ (a : Answer X F A). a >>= λ x. check_value (place (g.text ++ other)) x.1 (f x.0))
              (g.again other (inl same)) ∙ ap (check_value (place (g.text ++ other)) other) e
              ∙ ap (λ (at : ℕ). Err (flawed (refused reason) at))
              (sym (same_place (g.text ++ w) (g.text ++ other) (same_behind g.text w other same))
              ∙ ap place (sym g.parts));
          viable = whole_begun u g.text x w reason e g.parts
              (some u x w was (subst (λ (q : Result B F). IsErr q) (sym e) tt)) (λ w clear. g.again w (inr clear));
        }

        by_case : (a : Answer X F A) → r u ≡ a → GoodAt r P c u a
            → GoodAt (checks f r) (Checked f P) c u (a >>= λ x. check_value (place u) x.1 (f x.0))
        by_case (Ok x) was g = by_value x.0 x.1 was g (f x.0) refl
        by_case (Err stop) was g = record {
          text = g.text;
          left = g.left;
          parts = g.parts;
          again =
              λ other same. ap (λ (a : Answer X F A). a >>= λ x. check_value (place (g.text ++ other)) x.1 (f x.0))
              (g.again other same);
          viable = viable_as r P c u (checks f r) (Checked f P) c u g.text g.text inl
              (checked_begun u g.text) (λ at p. p) stop g.viable;
        }

-- ---- sequences

abbrev pub in_turn : {X F A B C : Type 0} → (A → B → C) → Reader X F A → Reader X F B → Reader X F C
in_turn f r s u = r u >>= λ x. s x.1 >>= λ y. Ok (f x.0 y.0, y.1)

abbrev pub InTurn : {X F A B C : Type 0} → (A → B → C) → Span X F A → Span X F B → Span X F C
InTurn {X} {F} {A} {B} f P Q o u w = (p : Outcome F A) × (q : Outcome F B) × (m : List (Token X)) × P p u m × Q q m w
    × (o ≡ (p >>= λ x. q >>= λ y. Ok (f x y)))

module _ {X F A B C : Type 0} (f : A → B → C) (r : Reader X F A) (P : Span X F A) (c : Class) (s : Reader X F B)
    (Q : Span X F B) (d : Class) (can : Bool) (least : List (Token X))
    (sound : (u : List (Token X)) (x : A) (w : List (Token X)) → r u ≡ Ok (x, w) → P (Ok x) u w)
    (null : (u : List (Token X)) (y : B) → s u ≡ Ok (y, u) → can ≡ true)
    (completes : (w : List (Token X)) → next d w ≡ false → (o : Outcome F B) × Q o (least ++ w) w)
    (calm : (w : List (Token X)) → next (d ++ cond can c []) w ≡ false → next c (least ++ w) ≡ false) where
  abbrev behind_value : A → Answer X F B → Answer X F C
  behind_value x a = a >>= λ y. Ok (f x y.0, y.1)

  abbrev Joint : Class
  Joint = d ++ cond can c []

  abbrev pair : Outcome F A → Outcome F B → Outcome F C
  pair o q = o >>= λ x. q >>= λ y. Ok (f x y)

  -- the second rule starts here
  near_second : (w other : List (Token X)) → Near Joint w other → Near d w other
  near_second w other (inl h) = inl h
  near_second w other (inr h) = inr (out_left d (cond can c []) other h)

  -- what follows the first rule if the second one read this text
  near_first : (text m w other : List (Token X)) → m ≡ text ++ w → (text ≡ [] → can ≡ true) → Near Joint w other
      → Near c m (text ++ other)
  near_first (t ∷ ts) m w other e is near =
      inl (subst (λ (l : List (Token X)). SameHead l ((t ∷ ts) ++ other)) (sym e) refl)
  near_first [] m w other e is (inl h) = inl (subst (λ (l : List (Token X)). SameHead l other) (sym e) h)
  near_first [] m w other e is (inr h) = inr (ap (λ (k : Class). next k other) (sym (cond-true can c [] (is refl)))
      ∙ out_right d (cond can c []) other h)

  -- the first rule was read, and the second one stopped at its start
  begun_between : (u text : List (Token X)) (x : A) (m : List (Token X)) → (g : Goes r P c u x m) → text ≡ []
      → (g.text ++ text ≡ []) ⊎ Begun (in_turn f r s) (InTurn f P Q) Joint u None (g.text ++ text)
  begun_between u text x m g none = go g.text (λ w clear. g.again w (inr clear)) none
    where
      go : (before : List (Token X)) → ((w : List (Token X)) → next c w ≡ false → r (before ++ w) ≡ Ok (x, w))
          → text ≡ [] → (before ++ text ≡ []) ⊎ Begun (in_turn f r s) (InTurn f P Q) Joint u None (before ++ text)
      go [] again e = inl e
      go (t ∷ ts) again e = inr (record {
        head = t;
        tail = ts ++ text;
        some = refl;
        rest = least;
        spelled = λ w clear.
            let q = completes w (out_left d (cond can c []) w clear) in
            let p = sound ((t ∷ ts) ++ (least ++ w)) x (least ++ w) (again (least ++ w) (calm w clear)) in (
              pair (Ok x) q.0,
              tt,
              subst (λ (l : List (Token X)). InTurn f P Q (pair (Ok x) q.0) l w)
                  (sym (append_assoc (t ∷ ts) text (least ++ w)
                  ∙ ap (λ (l : List (Token X)). (t ∷ ts) ++ (l ++ (least ++ w))) e))
                  (Ok x, q.0, least ++ w, p, q.1, refl),
            );
      })

  begun_second : (u text : List (Token X)) (x : A) (m left : List (Token X)) → m ≡ text ++ left
      → (g : Goes r P c u x m) → (flaw : Option (Flaw F × ℕ)) → (h : Begun s Q d m flaw text)
      → Begun (in_turn f r s) (InTurn f P Q) Joint u flaw (g.text ++ text)
  begun_second u text x m left e g flaw h = first_of g.text (λ w clear.
      let q = h.spelled w (out_left d (cond can c []) w clear) in
      let near : Near c m (text ++ (h.rest ++ w)) = inl
      (subst (λ (l : List (Token X)). SameHead l (text ++ (h.rest ++ w))) (sym e)
      (subst (λ (l : List (Token X)). SameHead (l ++ left) (l ++ (h.rest ++ w))) (sym h.some) refl)) in
      let p = sound (g.text ++ (text ++ (h.rest ++ w))) x (text ++ (h.rest ++ w))
      (g.again (text ++ (h.rest ++ w)) near) in (
        pair (Ok x) q.0,
        still_flawed flaw q.0 (λ y. Ok (f x y)) q.1,
        subst (λ (l : List (Token X)). InTurn f P Q (pair (Ok x) q.0) l w)
            (sym (append_assoc g.text text (h.rest ++ w))) (Ok x, q.0, text ++ (h.rest ++ w), p, q.2, refl),
      ))
    where
      first_of : (before : List (Token X)) → ((w : List (Token X)) → next Joint w ≡ false → (o : Outcome F C)
          × FlawIs flaw o × InTurn f P Q o ((before ++ text) ++ (h.rest ++ w)) w)
          → Begun (in_turn f r s) (InTurn f P Q) Joint u flaw (before ++ text)
      first_of [] spelled = record { head = h.head; tail = h.tail; some = h.some; rest = h.rest; spelled = spelled }
      first_of (t ∷ ts) spelled = record { head = t; tail = ts ++ text; some = refl; rest = h.rest; spelled = spelled }

  begun_first : (u text : List (Token X)) (flaw : Option (Flaw F × ℕ)) → Begun r P c u flaw text
      → Begun (in_turn f r s) (InTurn f P Q) Joint u flaw text
  begun_first u text flaw h = record {
    head = h.head;
    tail = h.tail;
    some = h.some;
    rest = h.rest ++ least;
    spelled = λ w clear.
        let q = completes w (out_left d (cond can c []) w clear) in
        let p = h.spelled (least ++ w) (calm w clear) in (
          pair p.0 q.0,
          still_flawed flaw p.0 (λ x. q.0 >>= λ y. Ok (f x y)) p.1,
          subst (λ (l : List (Token X)). InTurn f P Q (pair p.0 q.0) (text ++ l) w) (sym (append_assoc h.rest least w))
              (p.0, q.0, least ++ w, p.2, q.1, refl),
        );
  }

  pub good_both : (u : List (Token X)) → GoodAt r P c u (r u)
      → ((x : A) (m : List (Token X)) → r u ≡ Ok (x, m) → GoodAt s Q d m (s m))
      → GoodAt (in_turn f r s) (InTurn f P Q) Joint u (in_turn f r s u)
  good_both u good then = by_first (r u) refl good then
    where
      again_both : (x : A) (m : List (Token X)) (g : Goes r P c u x m) (text other : List (Token X))
          → Near c m (text ++ other) → in_turn f r s ((g.text ++ text) ++ other) ≡ behind_value x (s (text ++ other))
      again_both x m g text other near = ap (in_turn f r s) (append_assoc g.text text other)
          ∙ ap (λ (a : Answer X F A). a >>= λ x. s x.1 >>= λ y. Ok (f x.0 y.0, y.1)) (g.again (text ++ other) near)

      by_second : (x : A) (m : List (Token X)) → Goes r P c u x m → (a : Answer X F B) → s m ≡ a → GoodAt s Q d m a
          → GoodAt (in_turn f r s) (InTurn f P Q) Joint u (behind_value x a)
      by_second x m g (Ok y) e h = record {
        text = g.text ++ h.text;
        parts = g.parts ∙ ap (λ (l : List (Token X)). g.text ++ l) h.parts ∙ sym (append_assoc g.text h.text y.1);
        again = λ other near. again_both x m g h.text other
            (near_first h.text m y.1 other h.parts
            (λ (none : h.text ≡ []). null m y.0 (e ∙ ap (λ (l : List (Token X)). Ok (y.0, l))
            (sym (h.parts ∙ ap (λ (l : List (Token X)). l ++ y.1) none)))) near)
            ∙ ap (behind_value x) (h.again other (near_second y.1 other near));
      }
      by_second x m g (Err stop) e h = record {
        text = g.text ++ h.text;
        left = h.left;
        parts = g.parts ∙ ap (λ (l : List (Token X)). g.text ++ l) h.parts ∙ sym (append_assoc g.text h.text h.left);
        again = λ other same. again_both x m g h.text other
            (inl (subst (λ (l : List (Token X)). SameHead l (h.text ++ other)) (sym h.parts)
            (same_behind h.text h.left other same))) ∙ ap (behind_value x) (h.again other same);
        viable = viable_as s Q d m (in_turn f r s) (InTurn f P Q) Joint u h.text (g.text ++ h.text)
            (begun_between u h.text x m g) (begun_second u h.text x m h.left h.parts g)
            (λ at p. place_behind at g.text h.text p) stop h.viable;
      }

      by_first : (a : Answer X F A) → r u ≡ a → GoodAt r P c u a
          → ((x : A) (m : List (Token X)) → r u ≡ Ok (x, m) → GoodAt s Q d m (s m))
          → GoodAt (in_turn f r s) (InTurn f P Q) Joint u (a >>= λ x. s x.1 >>= λ y. Ok (f x.0 y.0, y.1))
      by_first (Ok x) e g then = by_second x.0 x.1 g (s x.1) refl (then x.0 x.1 e)
      by_first (Err stop) e g then = record {
        text = g.text;
        left = g.left;
        parts = g.parts;
        again = λ other same. ap (λ (a : Answer X F A). a >>= λ x. s x.1 >>= λ y. Ok (f x.0 y.0, y.1))
            (g.again other same);
        viable = viable_as r P c u (in_turn f r s) (InTurn f P Q) Joint u g.text g.text inl (begun_first u g.text)
            (λ at p. p) stop g.viable;
      }
