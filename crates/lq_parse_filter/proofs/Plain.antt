-- A word that calls nothing, and what stands after it.
use Rattle.std.proofs.Common.{◌≡◌, ℕ, suc, Bool, true, cond, List, [], ◌∷◌, length, Option, Ok, Err, refl, sym, ap, ◌∙◌}
use Rattle.std.proofs.lemmas.Bool.{cond-true}
use Rattle.grammar.specs.Rule.{Token, Class, has}
use Rattle.grammar.specs.Spelling.{◌>>=◌}
use Rattle.grammar.specs.Reading.{Answer, stuck, mapped}
use Rattle.lq_ast.specs.Condition.{Condition}
use Rattle.lq_grammar.specs.declared.role.Role.TheVariants.{Quoted}
use Rattle.lq_grammar.specs.Roles.{any, plain_words}
use Rattle.lq_grammar.specs.Values.{Bytes, Reason, Filtering}
use Rattle.lq_grammar.specs.LogsQL.{text, ended, alone, word_led, mark_leaf, bare_end, quoted_end, ◌|||◌}
use Rattle.lq_grammar.specs.Clauses.{at}

abbrev Tokens : Type 0
Tokens = List (Token Bytes)

abbrev class : Class
class = any plain_words

abbrev word_at : Bool → Token Bytes → Tokens → Answer Bytes Reason Bytes
word_at b t ts = cond b (Ok (t.content, ts)) (Err (stuck (suc (length ts))))

abbrev ended_at : ℕ → Bool → Token Bytes → Tokens → Answer Bytes Reason Filtering
ended_at depth b t ts = word_at b t ts >>= λ x. at depth bare_end x.1 >>= λ y. Ok (y.0 x.0, y.1)

abbrev in_field : Option Bytes → Answer Bytes Reason Filtering → Answer Bytes Reason Condition
in_field field r = mapped (λ made. made field) r

fielded : (field : Option Bytes) (word : Bytes) (r : Answer Bytes Reason (Bytes → Filtering))
    → in_field field (r >>= λ y. Ok (y.0 word, y.1)) ≡ mapped (λ made. made word field) r
fielded field word (Ok x) = refl
fielded field word (Err stop) = refl

pub plain_read : (depth : ℕ) (u rest : Tokens) (word : Bytes) (field : Option Bytes)
    → ((t : Token Bytes) × (u ≡ t ∷ rest) × (has class t ≡ true) × (word ≡ t.content))
    → mapped (λ made. made field) (at depth (word_led alone) u) ≡ mapped (λ made. made word field) (at depth bare_end rest)
unfolding word_led
plain_read depth u rest word field (t, is, h, e) =
    ap (λ (l : Tokens). in_field field (at depth (word_led alone) l)) is
    ∙ ap (in_field field) (cond-true (has class t) (at depth (ended (text class) bare_end) (t ∷ rest))
    (at depth (ended (text (any (Quoted ∷ []))) quoted_end ||| mark_leaf) (t ∷ rest)) h)
    ∙ ap (λ (b : Bool). in_field field (ended_at depth b t rest)) h
    ∙ fielded field t.content (at depth bare_end rest)
    ∙ ap (λ (w : Bytes). mapped (λ made. made w field) (at depth bare_end rest)) (sym e)
