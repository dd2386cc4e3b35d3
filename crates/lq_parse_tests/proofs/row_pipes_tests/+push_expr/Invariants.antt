use Rattle.lq_parse_tests.proofs.row_pipes_tests.+push_expr.Given as goal

abbrev pub decreases-push_expr : goal.decreases-push_expr
decreases-push_expr l = l.depth
