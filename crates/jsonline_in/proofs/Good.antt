-- What holds of each reader: what it takes is spelled so, where it stops some text of its kind goes on, and only the
-- bytes up to the next one matter.
use Rattle.std.proofs.Common.{◌≡◌, ℕ, ◌<◌, Bool, true, false, cond, eqb, List, [], ◌∷◌, ◌++◌, length, Option, Some}
use Rattle.std.proofs.Common.{None, Result, Ok, Err, refl, sym, ap, subst, ◌∙◌, append_assoc, arith}
use Rattle.std.proofs.lemmas.List.{length-append}
use Rattle.std.proofs.lemmas.Bool.{eqb-true, eq-eqb}
use Rattle.std.proofs.lemmas.Option.{cond_some}
use Rattle.jsonline_in.specs.Reading.{past, Fault, deep, stuck, Reader, ◌>>=◌, gives, fails, chosen_by, chosen, behind}

-- the first bytes are the same, or both are at their end
abbrev pub SameHead : List ℕ → List ℕ → Type 0
SameHead [] [] = Unit {0}
SameHead [] (y ∷ b) = ⊥
SameHead (x ∷ a) [] = ⊥
SameHead (x ∷ a) (y ∷ b) = x ≡ y

pub same_itself : (bytes : List ℕ) → SameHead bytes bytes
same_itself [] = tt
same_itself (b ∷ bs) = refl

pub same_behind : (text a b : List ℕ) → SameHead a b → SameHead (text ++ a) (text ++ b)
same_behind [] a b h = h
same_behind (x ∷ text) a b h = refl

-- whether values are to nest no deeper than is read, or may nest anyhow
pub data Reach : Type 0 where
  shallow : Reach
  any : Reach

module _ {A : Type 0} (In : Reach → A → List ℕ → Type 0) (r : Reader A) (bytes : List ℕ) where
  pub record Reads (x : A) (rest : List ℕ) : Type 0 where
    pub text : List ℕ
    pub parts : bytes ≡ text ++ rest
    pub inside : In shallow x text
    pub again : (other : List ℕ) → SameHead rest other → r (text ++ other) ≡ Ok (x, other)

  pub record Sticks (left : ℕ) : Type 0 where
    pub text : List ℕ
    pub stop : List ℕ
    pub parts : bytes ≡ text ++ stop
    pub left_is : left ≡ length stop
    pub x : A
    pub more : List ℕ
    pub inside : In shallow x (text ++ more)
    pub again : (other : List ℕ) → SameHead stop other → r (text ++ other) ≡ Err (stuck (length other))

  pub record Deepens : Type 0 where
    pub text : List ℕ
    pub stop : List ℕ
    pub parts : bytes ≡ text ++ stop
    pub some : 0 < length text
    pub x : A
    pub more : List ℕ
    pub inside : In any x (text ++ more)
    pub again : (other : List ℕ) → r (text ++ other) ≡ Err deep

  abbrev pub GoodAt : Result (A × List ℕ) Fault → Type 0
  GoodAt (Ok x) = Reads x.0 x.1
  GoodAt (Err deep) = Deepens
  GoodAt (Err (stuck left)) = Sticks left

abbrev pub Good : {A : Type 0} → (Reach → A → List ℕ → Type 0) → Reader A → Type 0
Good In r = (bytes : List ℕ) → GoodAt In r bytes (r bytes)

pub reads_of : {A : Type 0} (In : Reach → A → List ℕ → Type 0) (r : Reader A) → Good In r
    → (bytes : List ℕ) (x : A) (rest : List ℕ) → r bytes ≡ Ok (x, rest) → Reads In r bytes x rest
reads_of In r good bytes x rest e = subst (GoodAt In r bytes) e (good bytes)

-- the same of another reader that does the same
pub good_same : {A : Type 0} (In : Reach → A → List ℕ → Type 0) (q r : Reader A)
    → ((bytes : List ℕ) → q bytes ≡ r bytes) → (bytes : List ℕ) → GoodAt In r bytes (r bytes)
    → GoodAt In q bytes (q bytes)
good_same {A} In q r same bytes g = subst (GoodAt In q bytes) (sym (same bytes)) (by_case (r bytes) g)
  where
    by_case : (result : Result (A × List ℕ) Fault) → GoodAt In r bytes result → GoodAt In q bytes result
    by_case (Ok x) h = record {
      text = h.text;
      parts = h.parts;
      inside = h.inside;
      again = λ other s. same
          (h.text ++ other) ∙ h.again other s;
    }
    by_case (Err deep) h = record {
      text = h.text;
      stop = h.stop;
      parts = h.parts;
      some = h.some;
      x = h.x;
      more =
          h.more;
      inside = h.inside;
      again = λ other. same (h.text ++ other) ∙ h.again other;
    }
    by_case (Err (stuck left)) h = record {
      text = h.text;
      stop = h.stop;
      parts = h.parts;
      left_is = h.left_is;
      x =
          h.x;
      more = h.more;
      inside = h.inside;
      again = λ other s. same (h.text ++ other) ∙ h.again other s;
    }

-- the same of another kind of texts
pub good_wider : {A : Type 0} (In Out : Reach → A → List ℕ → Type 0)
    → ((reach : Reach) (x : A) (text : List ℕ) → In reach x text → Out reach x text) → (r : Reader A) → Good In r
    → Good Out r
good_wider {A} In Out wider r good bytes = by_case (r bytes) (good bytes)
  where
    by_case : (result : Result (A × List ℕ) Fault) → GoodAt In r bytes result → GoodAt Out r bytes result
    by_case (Ok x) h = record {
      text = h.text;
      parts = h.parts;
      inside = wider shallow x.0 h.text h.inside;
      again =
          h.again;
    }
    by_case (Err deep) h = record {
      text = h.text;
      stop = h.stop;
      parts = h.parts;
      some = h.some;
      x = h.x;
      more =
          h.more;
      inside = wider any h.x (h.text ++ h.more) h.inside;
      again = h.again;
    }
    by_case (Err (stuck left)) h = record {
      text = h.text;
      stop = h.stop;
      parts = h.parts;
      left_is = h.left_is;
      x =
          h.x;
      more = h.more;
      inside = wider shallow h.x (h.text ++ h.more) h.inside;
      again = h.again;
    }

-- ---- one reader after another

pub record Joins {A B : Type 0} (P : Reach → A → List ℕ → Type 0) (Q : A → Reach → B → List ℕ → Type 0)
    (R : Reach → B → List ℕ → Type 0) : Type 0 where
  pub join : (reach : Reach) (x : A) (a : List ℕ) (y : B) (b : List ℕ) → P reach x a → Q x reach y b
      → R reach y (a ++ b)
  pub widen : (x : A) (a : List ℕ) → P shallow x a → P any x a
  pub some : (reach : Reach) (x : A) (a : List ℕ) → P reach x a → (y : B) × (b : List ℕ) × Q x reach y b

module _ {A B : Type 0} (P : Reach → A → List ℕ → Type 0) (Q : A → Reach → B → List ℕ → Type 0)
    (R : Reach → B → List ℕ → Type 0) (joins : Joins P Q R) (r : Reader A) (f : A → Reader B) where
  abbrev pub both : Reader B
  both bytes = r bytes >>= λ x. f x.0 x.1

  behind_first : (bytes : List ℕ) (x : A) (rest : List ℕ) → Reads P r bytes x rest
      → (result : Result (B × List ℕ) Fault) → GoodAt (Q x) (f x) rest result → GoodAt R both bytes result
  behind_first bytes x rest g (Ok y) h = record {
    text = g.text ++ h.text;
    parts = g.parts ∙ ap (λ (t : List ℕ). g.text ++ t) h.parts ∙ sym (append_assoc g.text h.text y.1);
    inside = joins.join shallow x g.text y.0 h.text g.inside h.inside;
    again = λ other s. ap both (append_assoc g.text h.text other)
        ∙ ap (λ (o : Result (A × List ℕ) Fault). o >>= λ z. f z.0 z.1)
        (g.again (h.text ++ other) (subst (λ (t : List ℕ). SameHead t (h.text ++ other)) (sym h.parts)
        (same_behind h.text y.1 other s))) ∙ h.again other s;
  }
  behind_first bytes x rest g (Err deep) h = record {
    text = g.text ++ h.text;
    stop = h.stop;
    parts = g.parts ∙ ap (λ (t : List ℕ). g.text ++ t) h.parts ∙ sym (append_assoc g.text h.text h.stop);
    some = omega (arith, h.some, length-append g.text h.text);
    x = h.x;
    more = h.more;
    inside = subst (R any h.x) (sym (append_assoc g.text h.text h.more))
        (joins.join any x g.text h.x (h.text ++ h.more) (joins.widen x g.text g.inside) h.inside);
    again = λ other. ap both (append_assoc g.text h.text other)
        ∙ ap (λ (o : Result (A × List ℕ) Fault). o >>= λ z. f z.0 z.1)
        (g.again (h.text ++ other) (subst (λ (t : List ℕ). SameHead t (h.text ++ other)) (sym h.parts)
        (same_solid h.text h.stop other h.some))) ∙ h.again other;
  }
    where
      same_solid : (text a b : List ℕ) → 0 < length text → SameHead (text ++ a) (text ++ b)
      same_solid [] a b h = absurd (omega arith)
      same_solid (t ∷ text) a b h = refl
  behind_first bytes x rest g (Err (stuck left)) h = record {
    text = g.text ++ h.text;
    stop = h.stop;
    parts = g.parts ∙ ap (λ (t : List ℕ). g.text ++ t) h.parts ∙ sym (append_assoc g.text h.text h.stop);
    left_is = h.left_is;
    x = h.x;
    more = h.more;
    inside = subst (R shallow h.x) (sym (append_assoc g.text h.text h.more))
        (joins.join shallow x g.text h.x (h.text ++ h.more) g.inside h.inside);
    again = λ other s. ap both (append_assoc g.text h.text other)
        ∙ ap (λ (o : Result (A × List ℕ) Fault). o >>= λ z. f z.0 z.1)
        (g.again (h.text ++ other) (subst (λ (t : List ℕ). SameHead t (h.text ++ other)) (sym h.parts)
        (same_behind h.text h.stop other s))) ∙ h.again other s;
  }

  good_then_at : (bytes : List ℕ) (result : Result (A × List ℕ) Fault) → GoodAt P r bytes result
      → ((x : A) (rest : List ℕ) → result ≡ Ok (x, rest) → GoodAt (Q x) (f x) rest (f x rest))
      → GoodAt R both bytes (result >>= λ x. f x.0 x.1)
  good_then_at bytes (Ok x) g each = behind_first bytes x.0 x.1 g (f x.0 x.1) (each x.0 x.1 refl)
  good_then_at bytes (Err deep) g each =
      let last = joins.some any g.x (g.text ++ g.more) g.inside in
      record {
        text = g.text;
        stop = g.stop;
        parts = g.parts;
        some = g.some;
        x = last.0;
        more = g.more ++ last.1;
        inside = subst (R any last.0) (append_assoc g.text g.more last.1)
            (joins.join any g.x (g.text ++ g.more) last.0 last.1 g.inside last.2);
        again = λ other. ap (λ (o : Result (A × List ℕ) Fault). o >>= λ z. f z.0 z.1) (g.again other);
      }
  good_then_at bytes (Err (stuck left)) g each =
      let last = joins.some shallow g.x (g.text ++ g.more) g.inside in
      record {
        text = g.text;
        stop = g.stop;
        parts = g.parts;
        left_is = g.left_is;
        x = last.0;
        more = g.more ++ last.1;
        inside = subst (R shallow last.0) (append_assoc g.text g.more last.1)
            (joins.join shallow g.x (g.text ++ g.more) last.0 last.1 g.inside last.2);
        again = λ other s. ap (λ (o : Result (A × List ℕ) Fault). o >>= λ z. f z.0 z.1) (g.again other s);
      }

  pub good_both_at : (bytes : List ℕ) → GoodAt P r bytes (r bytes)
      → ((x : A) (rest : List ℕ) → r bytes ≡ Ok (x, rest) → GoodAt (Q x) (f x) rest (f x rest))
      → GoodAt R both bytes (both bytes)
  good_both_at bytes g each = good_then_at bytes (r bytes) g each

  pub good_both : Good P r → ((x : A) → Good (Q x) (f x)) → Good R both
  good_both good each bytes = good_both_at bytes (good bytes) (λ x rest e. each x rest)

-- ---- a reader that takes nothing

pub good_gives : {A : Type 0} (In : Reach → A → List ℕ → Type 0) (x : A) → In shallow x [] → Good In (gives x)
good_gives In x inside bytes = record { text = []; parts = refl; inside = inside; again = λ other s. refl }

abbrev pub made_of : {A B : Type 0} → (A → B) → Result (A × List ℕ) Fault → Result (B × List ℕ) Fault
made_of made result = result >>= λ x. Ok (made x.0, x.1)

-- a value that is made of what was read
module _ {A B : Type 0} (P : Reach → A → List ℕ → Type 0) (R : Reach → B → List ℕ → Type 0) (made : A → B)
    (r : Reader A) (wider : (reach : Reach) (x : A) (text : List ℕ) → P reach x text → R reach (made x) text) where
  made_at : (bytes : List ℕ) (result : Result (A × List ℕ) Fault) → GoodAt P r bytes result
      → GoodAt R (λ bytes. r bytes >>= λ x. Ok (made x.0, x.1)) bytes (made_of made result)
  made_at bytes (Ok x) h = record {
    text = h.text;
    parts = h.parts;
    inside = wider shallow x.0 h.text h.inside;
    again = λ other s. ap (made_of made) (h.again other s);
  }
  made_at bytes (Err deep) h = record {
    text = h.text;
    stop = h.stop;
    parts = h.parts;
    some = h.some;
    x = made h.x;
    more = h.more;
    inside = wider any h.x (h.text ++ h.more) h.inside;
    again = λ other. ap (made_of made)
        (h.again other);
  }
  made_at bytes (Err (stuck left)) h = record {
    text = h.text;
    stop = h.stop;
    parts = h.parts;
    left_is = h.left_is;
    x = made h.x;
    more = h.more;
    inside = wider shallow h.x (h.text ++ h.more) h.inside;
    again = λ other s. ap
        (made_of made) (h.again other s);
  }

  pub good_made_at : (bytes : List ℕ) → GoodAt P r bytes (r bytes)
      → GoodAt R (λ bytes. r bytes >>= λ x. Ok (made x.0, x.1)) bytes (made_of made (r bytes))
  good_made_at bytes g = made_at bytes (r bytes) g

  pub good_made : Good P r → Good R (λ bytes. r bytes >>= λ x. Ok (made x.0, x.1))
  good_made good bytes = good_made_at bytes (good bytes)

-- ---- choices by one byte

pub past_takes : (byte : ℕ) (bytes rest : List ℕ) → past byte bytes ≡ Some rest → bytes ≡ byte ∷ rest
past_takes byte [] rest e = absurd cc
past_takes byte (first ∷ others) rest e =
    let c = cond_some (eqb first byte) others rest e in
    let same : first ≡ byte = eqb-true first byte c.0 in
    cc c.1

pub past_again : (byte : ℕ) (rest : List ℕ) → past byte (byte ∷ rest) ≡ Some rest
past_again byte rest = ap (λ (b : Bool). cond b (Some rest) None) (eq-eqb byte byte refl)

-- whether the byte stands here is seen from the first byte
pub past_none : (byte : ℕ) (a b : List ℕ) → SameHead a b → past byte a ≡ None → past byte b ≡ None
past_none byte [] [] s e = refl
past_none byte [] (y ∷ b) s e = absurd s
past_none byte (x ∷ a) [] s e = absurd s
past_none byte (x ∷ a) (y ∷ b) s e = by_case (eqb x byte) e (ap (λ (z : ℕ). eqb z byte) (sym s))
  where
    by_case : (t : Bool) → cond t (Some a) None ≡ None → eqb y byte ≡ t → cond (eqb y byte) (Some b) None ≡ None
    by_case true h same = absurd cc
    by_case false h same = ap (λ (t : Bool). cond t (Some b) None) same

pub past_some : (byte : ℕ) (a b rest : List ℕ) → SameHead a b → past byte a ≡ Some rest → (more : List ℕ)
    × (past byte b ≡ Some more)
past_some byte [] b rest s e = absurd cc
past_some byte (x ∷ a) [] rest s e = absurd s
past_some byte (x ∷ a) (y ∷ b) rest s e =
    let c = cond_some (eqb x byte) a rest e in
    (b, ap (λ (t : Bool). cond t (Some b) None) (ap (λ (z : ℕ). eqb z byte) (sym s) ∙ c.0))

module _ {A : Type 0} (byte : ℕ) where
  pub good_behind : (P R : Reach → A → List ℕ → Type 0) (r : Reader A)
      → ((reach : Reach) (x : A) (text : List ℕ) → P reach x text → R reach x (byte ∷ text)) → (x : A) (more : List ℕ)
      → P shallow x more → Good P r → Good R (behind byte r)
  good_behind P R r wider x more sample good bytes = by_past (past byte bytes) refl
    where
      here : (rest : List ℕ) → behind byte r (byte ∷ rest) ≡ r rest
      here rest = ap (chosen_by r fails (byte ∷ rest)) (past_again byte rest)

      found : (rest : List ℕ) → bytes ≡ byte ∷ rest → (result : Result (A × List ℕ) Fault) → GoodAt P r rest result
          → GoodAt R (behind byte r) bytes result
      found rest is (Ok y) h = record {
        text = byte ∷ h.text;
        parts = is
            ∙ ap (λ (t : List ℕ). byte ∷ t) h.parts;
        inside = wider shallow y.0 h.text h.inside;
        again = λ other s. here
            (h.text ++ other) ∙ h.again other s;
      }
      found rest is (Err deep) h = record {
        text = byte ∷ h.text;
        stop = h.stop;
        parts = is
            ∙ ap (λ (t : List ℕ). byte ∷ t) h.parts;
        some = omega arith;
        x = h.x;
        more = h.more;
        inside = wider any h.x
            (h.text ++ h.more) h.inside;
        again = λ other. here (h.text ++ other) ∙ h.again other;
      }
      found rest is (Err (stuck left)) h = record {
        text = byte ∷ h.text;
        stop = h.stop;
        parts = is
            ∙ ap (λ (t : List ℕ). byte ∷ t) h.parts;
        left_is = h.left_is;
        x = h.x;
        more = h.more;
        inside = wider shallow
            h.x (h.text ++ h.more) h.inside;
        again = λ other s. here (h.text ++ other) ∙ h.again other s;
      }

      by_past : (o : Option (List ℕ)) → past byte bytes ≡ o → GoodAt R (behind byte r) bytes (chosen_by r fails bytes o)
      by_past (Some rest) e = found rest (past_takes byte bytes rest e) (r rest) (good rest)
      by_past None e = record {
        text = [];
        stop = bytes;
        parts = refl;
        left_is = refl;
        x = x;
        more = byte ∷ more;
        inside = wider shallow x more sample;
        again = λ other s. ap (chosen_by r fails other)
            (past_none byte bytes other s e);
      }

  -- a choice between what begins with the byte and what does not
  pub good_chosen : (R : Reach → A → List ℕ → Type 0) (some none : Reader A) → Good R (behind byte some)
      → ((bytes : List ℕ) → past byte bytes ≡ None → GoodAt R none bytes (none bytes))
      → Good R (chosen byte some none)
  good_chosen R some none first second bytes = by_past (past byte bytes) refl
    where
      not_solid : (text a b : List ℕ) → 0 < length text → past byte (text ++ a) ≡ None → past byte (text ++ b) ≡ None
      not_solid [] a b h e = absurd (omega arith)
      not_solid (t ∷ text) a b h e = past_none byte (t ∷ (text ++ a)) (t ∷ (text ++ b)) refl e

      other_way : past byte bytes ≡ None → (result : Result (A × List ℕ) Fault) → GoodAt R none bytes result
          → GoodAt R (chosen byte some none) bytes result
      other_way e (Ok y) h = record {
        text = h.text;
        parts = h.parts;
        inside = h.inside;
        again = λ other s. ap
            (chosen_by some none (h.text ++ other)) (past_none byte (h.text ++ y.1) (h.text ++ other)
            (same_behind h.text y.1 other s) (ap (past byte) (sym h.parts) ∙ e)) ∙ h.again other s;
      }
      other_way e (Err deep) h = record {
        text = h.text;
        stop = h.stop;
        parts = h.parts;
        some = h.some;
        x = h.x;
        more = h.more;
        inside = h.inside;
        again = λ other. ap (chosen_by some none (h.text ++ other))
            (not_solid h.text h.stop other h.some (ap (past byte) (sym h.parts) ∙ e)) ∙ h.again other;
      }
      other_way e (Err (stuck left)) h = record {
        text = h.text;
        stop = h.stop;
        parts = h.parts;
        left_is = h.left_is;
        x = h.x;
        more = h.more;
        inside = h.inside;
        again = λ other s. ap (chosen_by some none (h.text ++ other))
            (past_none byte (h.text ++ h.stop) (h.text ++ other) (same_behind h.text h.stop other s)
            (ap (past byte) (sym h.parts) ∙ e)) ∙ h.again other s;
      }

      same : (other rest : List ℕ) → past byte other ≡ Some rest → chosen byte some none other ≡ behind byte some other
      same other rest e = ap (chosen_by some none other) e ∙ sym (ap (chosen_by some fails other) e)

      solid : (text a b rest : List ℕ) → 0 < length text → past byte (text ++ a) ≡ Some rest → (more : List ℕ)
          × (past byte (text ++ b) ≡ Some more)
      solid [] a b rest h e = absurd (omega arith)
      solid (t ∷ text) a b rest h e = past_some byte (t ∷ (text ++ a)) (t ∷ (text ++ b)) rest refl e

      this_way : (rest : List ℕ) → past byte bytes ≡ Some rest → (result : Result (A × List ℕ) Fault)
          → GoodAt R (behind byte some) bytes result → GoodAt R (chosen byte some none) bytes result
      this_way rest e (Ok y) h = record {
        text = h.text;
        parts = h.parts;
        inside = h.inside;
        again = λ other s.
            let p = past_some byte (h.text ++ y.1) (h.text ++ other) rest (same_behind h.text y.1 other s)
            (ap (past byte) (sym h.parts) ∙ e) in same (h.text ++ other) p.0 p.1 ∙ h.again other s;
      }
      this_way rest e (Err deep) h = record {
        text = h.text;
        stop = h.stop;
        parts = h.parts;
        some = h.some;
        x = h.x;
        more = h.more;
        inside = h.inside;
        again = λ other. let p = solid h.text h.stop other rest h.some
            (ap (past byte) (sym h.parts) ∙ e) in same (h.text ++ other) p.0 p.1 ∙ h.again other;
      }
      this_way rest e (Err (stuck left)) h = record {
        text = h.text;
        stop = h.stop;
        parts = h.parts;
        left_is =
            h.left_is;
        x = h.x;
        more = h.more;
        inside = h.inside;
        again = λ other s. let p = past_some byte
            (h.text ++ h.stop) (h.text ++ other) rest (same_behind h.text h.stop other s)
            (ap (past byte) (sym h.parts) ∙ e) in same (h.text ++ other) p.0 p.1 ∙ h.again other s;
      }

      by_past : (o : Option (List ℕ)) → past byte bytes ≡ o
          → GoodAt R (chosen byte some none) bytes (chosen_by some none bytes o)
      by_past None e = other_way e (none bytes) (second bytes e)
      by_past (Some rest) e = this_way rest e (some rest)
          (subst (GoodAt R (behind byte some) bytes) (ap (chosen_by some fails bytes) e) (first bytes))
