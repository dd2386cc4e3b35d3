-- Lists of tokens: a text has one list of tokens, or one error.
use Rattle.std.proofs.Common.{◌≡◌, ℕ, ◌+◌, ◌<◌, ◌≤◌, Bool, not, ◌&&◌, eqb, List, [], ◌∷◌, ◌++◌, length, chars, Option, Some, None, Result, Ok, Err, refl, sym, ap, ◌∙◌, ◌⊎◌, inl, inr, subst, arith}
use Rattle.std.specs.Str.{encode_utf8_all}
use Rattle.std.proofs.lemmas.List.{append_cancel_right}
use Rattle.vl_row.specs.Field.{is_empty}
use Rattle.lq_lex.specs.declared.token.Kind.{Kind}
use Rattle.lq_lex.specs.declared.fault.LexFault.{LexFault}
use Rattle.lq_lex.specs.declared.fault.LexFault.TheVariants.{TooLong, OpenQuote, BadEscape, BadChar, Memory}
use Rattle.lq_lex.specs.Token.{Token}
use Rattle.lq_lex.specs.Lexing.{width, IsNext, GoesOn, IsSpace, Breaks, HasLexed, longest}
use Rattle.lq_lex.specs.Reading.{token_at}
use Rattle.lq_lex.proofs.Spaces.{skip, skip_again, skip_all, token_begins, fault_begins, token_not_nil, fault_not_nil}
use Rattle.lq_lex.proofs.TokenLaws.{token_again, fault_again}

-- ---- one more token

-- the offset, with this rest
abbrev pub At : ℕ → List ℕ → ℕ → List ℕ → Type 0
At before rest b r = (b ≡ before) × (r ≡ rest)

pub goes_on_more : (b : ℕ) (text : List ℕ) (ts : List Token) (before : ℕ) (here : List ℕ) (t : Token) (rest : List ℕ) → GoesOn b text ts (At before here) → IsNext before here t rest → GoesOn b text (ts ++ t ∷ []) (At (t.start + length t.span) rest)
goes_on_more b text [] before here t rest at n = (rest, subst (λ (x : ℕ). IsNext x text t rest) (sym at.0) (subst (λ (l : List ℕ). IsNext before l t rest) (sym at.1) n), (refl, refl))
goes_on_more b text (s ∷ ts) before here t rest (m, first, others) n = (m, first, goes_on_more (s.start + length s.span) m ts before here t rest others n)

pub goes_on_end : (b : ℕ) (text : List ℕ) (ts : List Token) (before : ℕ) (here : List ℕ) (Ends : ℕ → List ℕ → Type 0) → GoesOn b text ts (At before here) → Ends before here → GoesOn b text ts Ends
goes_on_end b text [] before here Ends at n = subst (λ (x : ℕ). Ends x text) (sym at.0) (subst (Ends before) (sym at.1) n)
goes_on_end b text (s ∷ ts) before here Ends (m, first, others) n = (m, first, goes_on_end (s.start + length s.span) m ts before here Ends others n)

-- ---- each step has one outcome

abbrev token_of : Kind → List ℕ → ℕ → Bool → Token
token_of kind span start glued = record { kind = kind; span = span; start = start; glued = glued }

same_token : (t s : Token) → t.kind ≡ s.kind → t.span ≡ s.span → t.start ≡ s.start → t.glued ≡ s.glued → t ≡ s
same_token t s k p a g =
    ap (λ (x : Kind). token_of x t.span t.start t.glued) k ∙ ap (λ (x : List ℕ). token_of s.kind x t.start t.glued) p ∙ ap (λ (x : ℕ). token_of s.kind s.span x t.glued) a ∙ ap (λ (x : Bool). token_of s.kind s.span s.start x) g

abbrev Answer : Type 0
Answer = Result (Kind × List ℕ) LexFault

abbrev found : Kind × List ℕ → Answer
found x = Ok x

abbrev failed : LexFault → Answer
failed fault = Err fault

found_inj : (x y : Kind × List ℕ) → found x ≡ found y → x ≡ y
found_inj x y e = cc

failed_inj : (x y : LexFault) → failed x ≡ failed y → x ≡ y
failed_inj x y e = cc

found_failed : (x : Kind × List ℕ) (y : LexFault) → found x ≡ failed y → ⊥
found_failed x y e = absurd cc

next_skip : (b : ℕ) (text : List ℕ) (t : Token) (rest : List ℕ) → (n : IsNext b text t rest) → skip text ≡ n.body ++ rest
next_skip b text t rest n = ap skip n.spelled ∙ skip_again n.gap (n.body ++ rest) n.is_gap (token_begins t.kind n.body rest n.is_token)

breaks_skip : (fault : LexFault) (b : ℕ) (text : List ℕ) → (n : Breaks fault b text) → skip text ≡ n.rest
breaks_skip fault b text n = ap skip n.spelled ∙ skip_again n.gap n.rest n.is_gap (fault_begins fault (b + width n.gap) n.rest n.is_fault)

pub next_same : (b : ℕ) (text : List ℕ) (t s : Token) (rest other : List ℕ) → IsNext b text t rest → IsNext b text s other → (t ≡ s) × (rest ≡ other)
next_same b text t s rest other n m =
    let here : n.body ++ rest ≡ m.body ++ other = sym (next_skip b text t rest n) ∙ next_skip b text s other m in
    let read = found_inj (t.kind, rest) (s.kind, other) (sym (token_again 0 t.kind n.body rest n.is_token) ∙ ap (token_at 0) here ∙ token_again 0 s.kind m.body other m.is_token) in
    let kinds : t.kind ≡ s.kind = ap (λ (x : Kind × List ℕ). x.0) read in
    let rests : rest ≡ other = ap (λ (x : Kind × List ℕ). x.1) read in
    let bodies : n.body ≡ m.body = append_cancel_right n.body m.body other (ap (λ (l : List ℕ). n.body ++ l) (sym rests) ∙ here) in
    let gaps : n.gap ≡ m.gap = append_cancel_right n.gap m.gap (m.body ++ other) (ap (λ (l : List ℕ). n.gap ++ l) (sym here) ∙ sym n.spelled ∙ m.spelled) in (
      same_token t s kinds (n.span_is ∙ ap encode_utf8_all bodies ∙ sym m.span_is) (n.start_is ∙ ap (λ (l : List ℕ). b + width l) gaps ∙ sym m.start_is)
          (n.glued_is ∙ ap (λ (l : List ℕ). is_empty l && not (eqb b 0)) gaps ∙ sym m.glued_is),
      rests,
    )

next_no_space : (b : ℕ) (text : List ℕ) (t : Token) (rest : List ℕ) → IsNext b text t rest → IsSpace b text → ⊥
next_no_space b text t rest n s = token_not_nil t.kind n.body rest n.is_token (sym (next_skip b text t rest n) ∙ skip_all text s)

next_no_break : (b : ℕ) (text : List ℕ) (t : Token) (rest : List ℕ) (fault : LexFault) → IsNext b text t rest → Breaks fault b text → ⊥
next_no_break b text t rest fault n m =
    let here : n.body ++ rest ≡ m.rest = sym (next_skip b text t rest n) ∙ breaks_skip fault b text m in
    let end = b + width m.gap + width m.rest in
    found_failed (t.kind, rest) fault (sym (token_again end t.kind n.body rest n.is_token) ∙ ap (token_at end) here ∙ fault_again end (b + width m.gap) m.rest fault refl m.is_fault)

space_no_break : (b : ℕ) (text : List ℕ) (fault : LexFault) → IsSpace b text → Breaks fault b text → ⊥
space_no_break b text fault s m = fault_not_nil fault (b + width m.gap) m.rest m.is_fault (sym (breaks_skip fault b text m) ∙ skip_all text s)

breaks_same : (b : ℕ) (text : List ℕ) (f g : LexFault) → Breaks f b text → Breaks g b text → f ≡ g
breaks_same b text f g n m =
    let rests : n.rest ≡ m.rest = sym (breaks_skip f b text n) ∙ breaks_skip g b text m in
    let gaps : n.gap ≡ m.gap = append_cancel_right n.gap m.gap m.rest (ap (λ (l : List ℕ). n.gap ++ l) (sym rests) ∙ sym n.spelled ∙ m.spelled) in
    let end = b + width n.gap + width n.rest in
    let same : end ≡ b + width m.gap + width m.rest = ap (λ (l : List ℕ). b + width l + width n.rest) gaps ∙ ap (λ (l : List ℕ). b + width m.gap + width l) rests in
    failed_inj f g (sym (fault_again end (b + width n.gap) n.rest f refl n.is_fault) ∙ ap (token_at end) rests ∙ fault_again end (b + width m.gap) m.rest g same m.is_fault)

-- ---- each text has one outcome

abbrev Ends : Option LexFault → ℕ → List ℕ → Type 0
Ends None = IsSpace
Ends (Some fault) = Breaks fault

ends_same : (o p : Option LexFault) (b : ℕ) (text : List ℕ) → Ends o b text → Ends p b text → o ≡ p
ends_same None None b text s r = refl
ends_same None (Some g) b text s r = absurd (space_no_break b text g s r)
ends_same (Some f) None b text s r = absurd (space_no_break b text f r s)
ends_same (Some f) (Some g) b text s r = ap Some (breaks_same b text f g s r)

next_no_end : (o : Option LexFault) (b : ℕ) (text : List ℕ) (t : Token) (rest : List ℕ) → IsNext b text t rest → Ends o b text → ⊥
next_no_end None b text t rest n s = next_no_space b text t rest n s
next_no_end (Some fault) b text t rest n s = next_no_break b text t rest fault n s

chain_same : (o p : Option LexFault) (b : ℕ) (text : List ℕ) (ts ss : List Token) → GoesOn b text ts (Ends o) → GoesOn b text ss (Ends p) → (ts ≡ ss) × (o ≡ p)
chain_same o p b text [] [] g h = (refl, ends_same o p b text g h)
chain_same o p b text [] (s ∷ ss) g (m, n, h) = absurd (next_no_end o b text s m n g)
chain_same o p b text (t ∷ ts) [] (m, n, g) h = absurd (next_no_end p b text t m n h)
chain_same o p b text (t ∷ ts) (s ∷ ss) (r, n, g) (q, m, h) =
    let one = next_same b text t s r q n m in
    let there : GoesOn (t.start + length t.span) r ss (Ends p) = subst (λ (x : Token). GoesOn (x.start + length x.span) r ss (Ends p)) (sym one.0) (subst (λ (l : List ℕ). GoesOn (s.start + length s.span) l ss (Ends p)) (sym one.1) h) in
    let others = chain_same o p (t.start + length t.span) r ts ss g there in
    (ap (λ (x : Token). x ∷ ts) one.0 ∙ ap (λ (l : List Token). s ∷ l) others.0, others.1)

abbrev Lexed : Type 0
Lexed = Result (List Token) LexFault

abbrev made : List Token → Option LexFault → Lexed
made ts None = Ok ts
made ts (Some fault) = Err fault

abbrev Whole : List ℕ → Lexed → Type 0
Whole text r = (length text ≤ longest) × (ts : List Token) × (o : Option LexFault) × GoesOn 0 (chars text) ts (Ends o) × (r ≡ made ts o)

view : (text : List ℕ) (r : Lexed) → HasLexed text r → ((r ≡ Err TooLong) × (longest < length text)) ⊎ Whole text r
view text (Ok ts) h = inr (h.0, ts, None, h.1, refl)
view text (Err TooLong) h = inl (refl, h)
view text (Err (OpenQuote at)) h = inr (h.0, h.1, Some (OpenQuote at), h.2, refl)
view text (Err (BadEscape at)) h = inr (h.0, h.1, Some (BadEscape at), h.2, refl)
view text (Err (BadChar at)) h = inr (h.0, h.1, Some (BadChar at), h.2, refl)
view text (Err Memory) h = inr (h.0, h.1, Some Memory, h.2, refl)

pub lexed_same : (text : List ℕ) (r q : Lexed) → HasLexed text r → HasLexed text q → r ≡ q
lexed_same text r q h i = by_view (view text r h) (view text q i)
  where
    by_view : ((r ≡ Err TooLong) × (longest < length text)) ⊎ Whole text r → ((q ≡ Err TooLong) × (longest < length text)) ⊎ Whole text q → r ≡ q
    by_view (inl a) (inl b) = a.0 ∙ sym b.0
    by_view (inl a) (inr b) = absurd (omega (arith, a.1, b.0))
    by_view (inr a) (inl b) = absurd (omega (arith, a.0, b.1))
    by_view (inr a) (inr b) =
        let s = chain_same a.2 b.2 0 (chars text) a.1 b.1 a.3 b.3 in
        a.4 ∙ ap (λ (l : List Token). made l a.2) s.0 ∙ ap (λ (o : Option LexFault). made b.1 o) s.1 ∙ sym b.4
