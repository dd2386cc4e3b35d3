use Rattle.word_tokens.proofs.PhraseLaws.{phrases-bring_words, prefixes-bring_words}
use Rattle.word_tokens.proofs.phrase_law.Goals as goal

pub returns-clause-phrases : goal.returns-clause-phrases
returns-clause-phrases c = phrases-bring_words

pub returns-clause-prefixes : goal.returns-clause-prefixes
returns-clause-prefixes c = prefixes-bring_words
