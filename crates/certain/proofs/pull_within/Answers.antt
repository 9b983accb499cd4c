use Rattle.certain.proofs.Laws.{pull-is, column-in, index_in}
use Rattle.certain.proofs.pull_within.Goals as goal

pub dot_strided-of_balances-requires : goal.dot_strided-of_balances-requires
dot_strided-of_balances-requires c = record { by_index = λ j l. column-in _ j _ _ _ c.requires.0 l c.requires.1.balances_long; by_index_2 = λ j l. index_in _ _ _ l c.requires.1.y_long }

pub dot_strided-of_limits-requires : goal.dot_strided-of_limits-requires
dot_strided-of_limits-requires c = record { by_index = λ j l. column-in _ j _ _ _ c.requires.0 l c.requires.1.limits_long; by_index_2 = λ j l. index_in _ _ _ l c.requires.1.z_long }

pub returns : goal.returns
returns c = pull-is _ _ _ _ _ _ _ _ _ c.dot_strided-of_balances.result c.dot_strided-of_limits.result c.add.ensures c.dot_strided-of_balances.ensures c.dot_strided-of_limits.ensures
