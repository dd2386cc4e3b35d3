-- The grammar of LogsQL passes the tests.
use Rattle.std.proofs.Common.{◌≡◌, true, false, List, [], ◌∷◌, ◌++◌, refl}
use Rattle.grammar.specs.Rule.{Token, Class, has}
use Rattle.grammar.proofs.Sets.{inside}
use Rattle.grammar.proofs.Table.{more, fits, plain, solid, shortest, nothing}
use Rattle.grammar.proofs.Whole.{Passes, PassesAt}
use Rattle.lq_grammar.specs.declared.role.Role.TheVariants.{Open, SquareOpen, Colon, Star}
use Rattle.lq_grammar.specs.declared.scope.Scope.TheVariants.{Rows, Records}
use Rattle.lq_grammar.specs.Roles.{glued, any, texts as text_roles, quoted, run_parts}
use Rattle.lq_grammar.specs.Values.{Bytes}
use Rattle.lq_grammar.specs.LogsQL.{Name, group, negation, inner_negation, parenthesized, heads, rules, logsql}
use Rattle.lq_grammar.specs.LogsQL.{query, texts, groups}
use Rattle.lq_grammar.specs.LogsQL.{optional_groups, or, and, next_unary, unary, unit, row_unit, record_unit, word_unit}
use Rattle.lq_grammar.specs.LogsQL.{stream_end, stream_value, time_end, inner, time, interval, last_bound}
use Rattle.lq_grammar.specs.LogsQL.{lone_run, bound, run, run_rest, selector, labels, label, how, leaf, led, range_led}
use Rattle.lq_grammar.specs.LogsQL.{word_led, mark_leaf, star, less, greater, regex, exact, range_end, ends, last_end}
use Rattle.lq_grammar.specs.LogsQL.{closing, string_range_end, len_range_end, seq_end, i_end, in_end, quoted_end}
use Rattle.lq_grammar.specs.LogsQL.{bare_end, high_size, size, end, num, args, arg}
use Rattle.lq_grammar.specs.LogsQL.{pipes, pipe, record_pipe, group_pipe, stats_pipe, funcs, func, func_end, if_end, call, naming}
use Rattle.lq_grammar.specs.LogsQL.{call_of_one, name_call, counted, groups_by, key_list, keys, key, step_end, step}
use Rattle.lq_grammar.specs.LogsQL.{top_pipe, most, by_most, word_most, most_end, uniq_pipe, uniq_rest, uniq_end, hits, sort_pipe}
use Rattle.lq_grammar.specs.LogsQL.{sort_rest, sort_end, cut, offset}
use Rattle.lq_grammar.specs.LogsQL.{sort_keys, sort_key, direction, limit, count, pairs, pair, new_name, name_list, names}
use Rattle.lq_grammar.specs.LogsQL.{row_pipe, math_items, math_item, expr, next_term, sum_op, term, next_factor}
use Rattle.lq_grammar.specs.LogsQL.{factor_op, atom, len_pipe, format_pipe, extract_pipe, format_pieces, extract_pieces}
use Rattle.lq_grammar.specs.LogsQL.{source, target, set_name}

-- what goes on with each name
abbrev next_to : Name → Class
next_to (group scope) = []
next_to (negation scope) = any (Colon ∷ []) ++ glued (SquareOpen ∷ [])
next_to (inner_negation scope) = glued (SquareOpen ∷ [])
next_to parenthesized = []

-- what goes on with it, or may not follow it
abbrev shuts : Name → Class
shuts (group scope) = []
shuts (negation scope) = any (Colon ∷ []) ++ glued (Open ∷ SquareOpen ∷ Star ∷ run_parts ++ quoted)
shuts (inner_negation scope) = glued (Open ∷ SquareOpen ∷ Star ∷ text_roles)
shuts parenthesized = []

-- a token of each class
abbrev sample : Class → Token Bytes
sample [] = record { kind = 0; place = 0; content = [] }
sample (kind ∷ kinds) = record { kind = kind; place = 0; content = [] }

abbrev short : Name → List (Token Bytes)
short = shortest sample heads rules

fit : (n : Name) → fits heads next_to (rules n) ≡ true
unfolding texts groups optional_groups or and next_unary unary unit row_unit record_unit word_unit stream_end
    stream_value time_end inner time interval last_bound lone_run bound run run_rest selector labels label how leaf led
    range_led word_led mark_leaf star less greater regex exact range_end ends last_end closing string_range_end
    len_range_end seq_end i_end in_end quoted_end bare_end high_size size end num args arg expr next_term sum_op
    term next_factor factor_op atom
fit (group Rows) = refl
fit (group Records) = refl
fit (negation Rows) = refl
fit (negation Records) = refl
fit (inner_negation Rows) = refl
fit (inner_negation Records) = refl
fit parenthesized = refl

next_in : (n : Name) → inside (more false heads next_to (rules n)) (next_to n) ≡ true
unfolding texts groups optional_groups or and next_unary unary unit row_unit record_unit word_unit stream_end
    stream_value time_end inner time interval last_bound lone_run bound run run_rest selector labels label how leaf led
    range_led word_led mark_leaf star less greater regex exact range_end ends last_end closing string_range_end
    len_range_end seq_end i_end in_end quoted_end bare_end high_size size end num args arg expr next_term sum_op
    term next_factor factor_op atom
next_in (group Rows) = refl
next_in (group Records) = refl
next_in (negation Rows) = refl
next_in (negation Records) = refl
next_in (inner_negation Rows) = refl
next_in (inner_negation Records) = refl
next_in parenthesized = refl

shuts_in : (n : Name) → inside (more true heads shuts (rules n)) (shuts n) ≡ true
unfolding texts groups optional_groups or and next_unary unary unit row_unit record_unit word_unit stream_end
    stream_value time_end inner time interval last_bound lone_run bound run run_rest selector labels label how leaf led
    range_led word_led mark_leaf star less greater regex exact range_end ends last_end closing string_range_end
    len_range_end seq_end i_end in_end quoted_end bare_end high_size size end num args arg expr next_term sum_op
    term next_factor factor_op atom
shuts_in (group Rows) = refl
shuts_in (group Records) = refl
shuts_in (negation Rows) = refl
shuts_in (negation Records) = refl
shuts_in (inner_negation Rows) = refl
shuts_in (inner_negation Records) = refl
shuts_in parenthesized = refl

head_is : (n : Name) → has (heads n) (sample (heads n)) ≡ true
unfolding texts groups optional_groups or and next_unary unary unit row_unit record_unit word_unit stream_end
    stream_value time_end inner time interval last_bound lone_run bound run run_rest selector labels label how leaf led
    range_led word_led mark_leaf star less greater regex exact range_end ends last_end closing string_range_end
    len_range_end seq_end i_end in_end quoted_end bare_end high_size size end num args arg expr next_term sum_op
    term next_factor factor_op atom
head_is (group Rows) = refl
head_is (group Records) = refl
head_is (negation Rows) = refl
head_is (negation Records) = refl
head_is (inner_negation Rows) = refl
head_is (inner_negation Records) = refl
head_is parenthesized = refl

is_plain : (n : Name) → plain (rules n) ≡ true
unfolding texts groups optional_groups or and next_unary unary unit row_unit record_unit word_unit stream_end
    stream_value time_end inner time interval last_bound lone_run bound run run_rest selector labels label how leaf led
    range_led word_led mark_leaf star less greater regex exact range_end ends last_end closing string_range_end
    len_range_end seq_end i_end in_end quoted_end bare_end high_size size end num args arg expr next_term sum_op
    term next_factor factor_op atom
is_plain (group Rows) = refl
is_plain (group Records) = refl
is_plain (negation Rows) = refl
is_plain (negation Records) = refl
is_plain (inner_negation Rows) = refl
is_plain (inner_negation Records) = refl
is_plain parenthesized = refl

plain_solid : (n : Name) → solid sample nothing heads shuts (rules n) ≡ true
unfolding texts groups optional_groups or and next_unary unary unit row_unit record_unit word_unit stream_end
    stream_value time_end inner time interval last_bound lone_run bound run run_rest selector labels label how leaf led
    range_led word_led mark_leaf star less greater regex exact range_end ends last_end closing string_range_end
    len_range_end seq_end i_end in_end quoted_end bare_end high_size size end num args arg expr next_term sum_op
    term next_factor factor_op atom
plain_solid (group Rows) = refl
plain_solid (group Records) = refl
plain_solid (negation Rows) = refl
plain_solid (negation Records) = refl
plain_solid (inner_negation Rows) = refl
plain_solid (inner_negation Records) = refl
plain_solid parenthesized = refl

is_solid : (n : Name) → solid sample short heads shuts (rules n) ≡ true
unfolding texts groups optional_groups or and next_unary unary unit row_unit record_unit word_unit stream_end
    stream_value time_end inner time interval last_bound lone_run bound run run_rest selector labels label how leaf led
    range_led word_led mark_leaf star less greater regex exact range_end ends last_end closing string_range_end
    len_range_end seq_end i_end in_end quoted_end bare_end high_size size end num args arg expr next_term sum_op
    term next_factor factor_op atom
is_solid (group Rows) = refl
is_solid (group Records) = refl
is_solid (negation Rows) = refl
is_solid (negation Records) = refl
is_solid (inner_negation Rows) = refl
is_solid (inner_negation Records) = refl
is_solid parenthesized = refl

pub passes : Passes logsql
passes = record {
  ends = next_to;
  shuts = shuts;
  sample = sample;
  fit = fit;
  ends_in = next_in;
  shuts_in = shuts_in;
  head_is = head_is;
  is_plain = is_plain;
  plain_solid = plain_solid;
  is_solid = is_solid;
}

query_fits : fits heads next_to query ≡ true
unfolding texts groups optional_groups or and next_unary unary unit row_unit record_unit word_unit stream_end
    stream_value time_end inner time interval last_bound lone_run bound run run_rest selector labels label how leaf led
    range_led word_led mark_leaf star less greater regex exact range_end ends last_end closing string_range_end
    len_range_end seq_end i_end in_end quoted_end bare_end high_size size end num args arg query pipes pipe record_pipe
    group_pipe stats_pipe funcs func func_end if_end naming call call_of_one name_call counted groups_by key_list keys key
    step_end step top_pipe most by_most word_most most_end uniq_pipe uniq_rest uniq_end hits sort_pipe sort_rest sort_end cut offset sort_keys sort_key direction limit
    count pairs pair new_name name_list names row_pipe math_items math_item expr next_term sum_op term
    next_factor factor_op atom len_pipe format_pipe extract_pipe format_pieces extract_pieces source target set_name
query_fits = refl

query_solid : solid sample short heads shuts query ≡ true
unfolding texts groups optional_groups or and next_unary unary unit row_unit record_unit word_unit stream_end
    stream_value time_end inner time interval last_bound lone_run bound run run_rest selector labels label how leaf led
    range_led word_led mark_leaf star less greater regex exact range_end ends last_end closing string_range_end
    len_range_end seq_end i_end in_end quoted_end bare_end high_size size end num args arg query pipes pipe record_pipe
    group_pipe stats_pipe funcs func func_end if_end naming call call_of_one name_call counted groups_by key_list keys key
    step_end step top_pipe most by_most word_most most_end uniq_pipe uniq_rest uniq_end hits sort_pipe sort_rest sort_end cut offset sort_keys sort_key direction limit
    count pairs pair new_name name_list names row_pipe math_items math_item expr next_term sum_op term
    next_factor factor_op atom len_pipe format_pipe extract_pipe format_pieces extract_pieces source target set_name
query_solid = refl

pub query_passes : PassesAt passes query
unfolding passes
query_passes = record { fit = query_fits; is_solid = query_solid }
