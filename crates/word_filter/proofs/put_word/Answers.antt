use Rattle.std.proofs.Common.{map, sym}
use Rattle.word_filter.proofs.Sorted.{kept-remembered, last-there, put-last, text_in}
use Rattle.word_filter.proofs.There.{there-again}
use Rattle.word_filter.proofs.put_word.Goals as goal

pub returns-else-is_new-clause-words : goal.returns-else-is_new-clause-words
returns-else-is_new-clause-words c =
    sym (there-again (map text_in c.args.all.now.items) c.args.word.now c.requires.some
    (c.is_new.ensures.had (map text_in c.args.all.now.items) c.requires.recent c.if-is_new.false))

pub returns-in_ok-push-clause-words : goal.returns-in_ok-push-clause-words
returns-in_ok-push-clause-words c =
    rw c.in_ok-push.ensures.items (put-last c.args.all.now.items c.make_room.new.all.items
    (c.hash_of.result, c.args.word)
    c.in_ok-make_room.ensures.same)

pub returns-in_ok-push-clause-recent : goal.returns-in_ok-push-clause-recent
returns-in_ok-push-clause-recent c =
    c.is_new.ensures.kept (map text_in c.push.new.self.items)
    (rw c.in_ok-push.ensures.items (kept-remembered c.args.all.now.items c.make_room.new.all.items (
      c.hash_of.result,
      c.args.word,
    ) c.args.recent.now c.in_ok-make_room.ensures.same c.requires.recent)) (rw c.in_ok-push.ensures.items
    (last-there c.make_room.new.all.items (c.hash_of.result, c.args.word)))

pub returns-else-is_new-clause-recent : goal.returns-else-is_new-clause-recent
returns-else-is_new-clause-recent c =
    c.is_new.ensures.kept (map text_in c.args.all.now.items) c.requires.recent
    (c.is_new.ensures.had (map text_in c.args.all.now.items) c.requires.recent c.if-is_new.false)
