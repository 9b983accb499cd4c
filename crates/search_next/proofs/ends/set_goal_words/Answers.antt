use borrow.Author.Tests.{eq-eqb, ne_eqb}
use Rattle.search_next.proofs.Ended.{words-begun, words-taken}
use Rattle.search_next.proofs.ends.set_goal_words.Goals as goal

pub returns-then-u-eq0 : goal.returns-then-u-eq0
returns-then-u-eq0 c = λ n m f. words-begun n m f _ _ _ _ _ _ (eq-eqb _ _ c.if-u-eq0.true) c.set_words.ensures

pub returns : goal.returns
returns c = let a = c.args in λ n m f. words-taken n m f a.u.now _ a.phase a.budget a.rows a.cols c.requires.1 (ne_eqb _ _ c.if-u-eq0.false) c.set_words-2.ensures
