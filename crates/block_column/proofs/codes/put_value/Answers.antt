use Rattle.std.proofs.Common.{◌≡◌, ◌∙◌, ℕ, List, Bor, ap, map, sym}
use Rattle.std.specs.BTreeSet.{insert_key}
use Rattle.log_model.specs.Field.{bytes_cmp}
use Rattle.block_model.specs.Distinct.{is_listed}
use Rattle.block_model.proofs.Distinct.{map-put, put-has}
use Rattle.block_model.proofs.Rising.{put-again}
use Rattle.block_model.proofs.Same.{each-listed, listed-kept}
use Rattle.block_column.proofs.codes.put_value.Goals as goal

abbrev now_of : Bor (List ℕ) → List ℕ
now_of t = t.now

pub returns-else-insert-clause-values : goal.returns-else-insert-clause-values
returns-else-insert-clause-values c =
    sym (put-again c.args.value.now (map now_of c.args.set.now.keys) c.requires.rising (each-listed (is_listed (map now_of
    c.args.set.now.keys)) c.args.value.now c.args.recent.now c.requires.recent (c.insert.ensures.had c.if-insert.false)))

pub returns-else-insert-clause-recent : goal.returns-else-insert-clause-recent
returns-else-insert-clause-recent c =
    c.insert.ensures.kept (is_listed (map now_of c.args.set.now.keys)) c.requires.recent
    (each-listed (is_listed (map now_of c.args.set.now.keys)) c.args.value.now c.args.recent.now c.requires.recent
    (c.insert.ensures.had c.if-insert.false))

pub returns-in_ok-insert-clause-values : goal.returns-in_ok-insert-clause-values
returns-in_ok-insert-clause-values c =
    ap (map now_of) c.in_ok-insert.ensures.keys ∙ map-put now_of c.args.set.now.keys c.args.value

pub returns-in_ok-insert-clause-recent : goal.returns-in_ok-insert-clause-recent
returns-in_ok-insert-clause-recent c =
    let texts : List (List ℕ) = map now_of c.args.set.now.keys in
    let value : List ℕ = c.args.value.now in
    let put : map now_of c.insert-then-insert.new.self.keys ≡ insert_key bytes_cmp (map now_of c.args.set.now.keys)
    c.args.value.now =
    ap (map now_of) c.in_ok-insert.ensures.keys ∙ map-put now_of c.args.set.now.keys c.args.value in
    rw put (c.insert.ensures.kept (is_listed (insert_key bytes_cmp texts value)) (listed-kept (map now_of c.args.set.now.keys)
    c.args.recent.now c.args.value.now c.requires.recent) (put-has c.args.value.now (map now_of c.args.set.now.keys)))
