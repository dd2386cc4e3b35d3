use Rattle.std.proofs.Common.{◌≡◌, ◌++◌, [], ◌∷◌, ◌∙◌, List, ℕ, Bor, ap, drop, get_or, length, map, take, ◌-◌, string_bytes}
use Rattle.json.specs.Print.{quoted}
use Rattle.lq_stats.proofs.Arrays.{array_made, later_items}
use Rattle.lq_stats.proofs.array.array_text.Goals as goal

pub returns : goal.returns
returns c =
    let texts = c.args.texts.now in
    let none : Bor (List ℕ) = record { ref_ptr = (0, 0); now = [] } in
    let begun : string_bytes c.push_quoted.new.out ≡ (91 ∷ []) ++ quoted (get_or texts 0 none).now =
    c.in_ok-push_quoted.ensures
    ∙ ap (λ l. l ++ quoted (get_or texts 0 none).now)
    (c.in_ok-push_str.ensures.bytes ∙ ap (λ l. l ++ 91 ∷ []) c.new-text.ensures.bytes) in
    c.in_ok-push_str-2.ensures.bytes
    ∙ array_made texts c.loop-left.left.now none (string_bytes c.loop-left.text) c.in-len1-up.len_at_least
    c.in_default-left.len_below
    (c.loop-left.invariant
    ∙ ap (λ l. l ++ later_items (map (λ text. text.now) (take (length texts - 1) (drop 1 texts)))) begun)
