use Rattle.std.proofs.Common.{◌≡◌, ◌∙◌, ap, false, map, sym}
use Rattle.std.specs.Prelude.{bytes_eq}
use Rattle.std.specs.List.{list_any}
use Rattle.word_filter.proofs.FewLaws.{put-among, put-once}
use Rattle.word_filter.proofs.Sorted.{text_in}
use Rattle.word_filter.proofs.few.put_word.Goals as goal

pub returns-then-is_among-clause-words : goal.returns-then-is_among-clause-words
returns-then-is_among-clause-words c _ =
    put-among (map text_in c.args.all.now.items) c.args.word.now
    (ap (λ ws. list_any (bytes_eq c.args.word.now) (map text_in ws)) (sym c.as_slice.ensures.value)
    ∙ sym c.is_among.ensures ∙ c.if-is_among.true)

pub returns-clause-once : goal.returns-clause-once
returns-clause-once c =
    let new : list_any (bytes_eq c.args.word.now) (map text_in c.args.all.now.items) ≡ false =
    ap (λ ws. list_any (bytes_eq c.args.word.now) (map text_in ws)) (sym c.as_slice.ensures.value)
    ∙ sym c.is_among.ensures ∙ c.if-is_among.false in
    rw c.push.ensures.items (put-once c.args.all.now.items (c.hash_of-hash.result, c.args.word) c.requires.once new)
