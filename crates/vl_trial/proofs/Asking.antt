-- What a text asks, by computing.
use Rattle.std.proofs.Common.{◌≡◌, suc, ◌&&◌, Bool, true, List, length, map, Option, Some, None, Result, Ok, refl}
use Rattle.std.proofs.Common.{subst}
use Rattle.std.specs.Prelude.{nat_le}
use Rattle.std.specs.Char.{encode_utf8}
use Rattle.std.specs.Fmt.{digits}
use Rattle.std.specs.Str.{is_utf8, chars}
use Rattle.std.proofs.lemmas.Bool.{and_parts, leb-true}
use Rattle.std.proofs.lemmas.Str.{IsUtf8-from_is_utf8}
use Rattle.ucd_category.proofs.Computing.{ucd_category}
use Rattle.log_model.specs.Order.{number_of}
use Rattle.log_model.specs.MomentText.{days_before_year, days_of_months}
use Rattle.log_model.specs.Words.{is_word_char}
use Rattle.time_text.specs.Reading.{fraction_at, number_of as day_of, day_at, time_at, hours_at, offset_at, tail_at}
use Rattle.time_text.specs.Reading.{date_time_at}
use Rattle.time_text.specs.BoundReading.{seconds_at, begin_at, stem_len, capital_offset_at, period_at}
use Rattle.time_text.specs.BoundReading.{nanosecond_at, bound_at}
use Rattle.time_text.specs.DurationReading.{letter_unit, unit_at, part_at}
use Rattle.grammar.specs.Reading.{Stop}
use Rattle.grammar.proofs.Names.{Answers}
use Rattle.lq_ast.specs.Question.{Question}
use Rattle.lq_lex.specs.Lexing.{longest}
use Rattle.lq_lex.specs.Reading.{token_at}
use Rattle.lq_lex.specs.Token.{Token}
use Rattle.lq_grammar.specs.Values.{Bytes, Reason}
use Rattle.lq_grammar.specs.Items.{item_of}
use Rattle.lq_grammar.specs.Moments.{duration_of, bound_of}
use Rattle.lq_grammar.specs.Query.{IsQuery, IsQueryText}
use Rattle.lq_grammar.specs.LogsQL.{texts, groups, optional_groups, or, and, next_unary, unary, unit, row_unit}
use Rattle.lq_grammar.specs.LogsQL.{record_unit, word_unit, stream_end, stream_value, time_end, inner, time, interval}
use Rattle.lq_grammar.specs.LogsQL.{last_bound, lone_run, bound, run, run_rest, selector, labels, label, how, leaf}
use Rattle.lq_grammar.specs.LogsQL.{led, range_led, word_led, mark_leaf, star, less, greater, regex, exact, range_end}
use Rattle.lq_grammar.specs.LogsQL.{ends, last_end, closing, string_range_end, len_range_end, seq_end, i_end, in_end}
use Rattle.lq_grammar.specs.LogsQL.{quoted_end, bare_end, high_size, size, end, num, args, arg, query, pipes, pipe}
use Rattle.lq_grammar.specs.LogsQL.{record_pipe, group_pipe, stats_pipe, funcs, func, func_end, if_end, naming, call}
use Rattle.lq_grammar.specs.LogsQL.{call_of_one, name_call, counted, groups_by, key_list, keys, key, step_end, step}
use Rattle.lq_grammar.specs.LogsQL.{top_pipe, most, by_most, word_most, most_end, uniq_pipe, uniq_rest, uniq_end}
use Rattle.lq_grammar.specs.LogsQL.{hits, sort_pipe, sort_rest, sort_end, cut, offset, sort_keys, sort_key, direction}
use Rattle.lq_grammar.specs.LogsQL.{limit, count, pairs, pair, new_name, name_list, names, set_name, target, source}
use Rattle.lq_grammar.specs.LogsQL.{extract_pieces, format_pieces, extract_pipe, format_pipe, len_pipe, atom, factor_op}
use Rattle.lq_grammar.specs.LogsQL.{next_factor, term, sum_op, next_term, expr, math_item, math_items, row_pipe}
use Rattle.lq_grammar.proofs.Answered.{reading, answered_query}
use Rattle.vl_trial.proofs.Lexed.{tokens_in, tokens_sound}

abbrev found_in : Bytes → Option (List Token)
found_in text = tokens_in (suc (length text)) 0 (chars text)

-- what these tokens ask
abbrev read_of : Option (List Token) → Option (Result Question (Stop Reason))
read_of None = None
read_of (Some ts) = Some (reading (map item_of ts))

-- The text is in UTF-8 and not too long.
unfoldable pub fits : Bytes → Bool
unfolding is_utf8 chars encode_utf8
fits text = is_utf8 text && nat_le (length text) longest

-- What the text is found to ask, if it has tokens. All words of the lexer and of the grammar compute in it.
unfoldable pub asked_in : Bytes → Option (Result Question (Stop Reason))
unfolding chars encode_utf8 digits is_word_char ucd_category token_at item_of number_of
    fraction_at day_of day_at time_at hours_at offset_at tail_at date_time_at days_before_year days_of_months
    seconds_at begin_at stem_len capital_offset_at period_at nanosecond_at bound_at bound_of
    letter_unit unit_at part_at duration_of
    arg args texts num end size high_size bare_end quoted_end in_end i_end seq_end len_range_end string_range_end
    closing last_end ends range_end exact regex greater less star mark_leaf word_led range_led led leaf
    how label labels groups optional_groups selector run_rest run bound lone_run last_bound interval time
    inner time_end stream_value stream_end word_unit row_unit record_unit unit unary next_unary and or
    names name_list new_name pair pairs count limit direction sort_key sort_keys offset cut sort_end sort_rest sort_pipe
    hits uniq_end uniq_rest uniq_pipe most_end by_most word_most most top_pipe step step_end key keys key_list groups_by
    counted name_call call_of_one call naming if_end func_end func funcs stats_pipe
    set_name target source extract_pieces format_pieces extract_pipe format_pipe len_pipe
    atom factor_op next_factor term sum_op next_term expr math_item math_items row_pipe
    group_pipe record_pipe pipe pipes query
asked_in text = read_of (found_in text)

tokens_of : (o : Option (List Token)) (asked : Question) → read_of o ≡ Some (Ok asked)
    → (ts : List Token) × (o ≡ Some ts) × (reading (map item_of ts) ≡ Ok asked)
tokens_of None asked e = absurd cc
tokens_of (Some ts) asked e = (ts, refl, cc)

-- What a text is found to ask, it asks.
pub asks_so : (text : Bytes) (asked : Question) → fits text ≡ true → asked_in text ≡ Some (Ok asked)
    → IsQueryText text asked
unfolding fits asked_in
asks_so text asked fit is =
    let p = and_parts (is_utf8 text) (nat_le (length text) longest) fit in
    let t = tokens_of (found_in text) asked is in
    record {
      items = map item_of t.0;
      has_items = record {
        utf8 = IsUtf8-from_is_utf8 text p.0;
        tokens = t.0;
        are_tokens = (leb-true (length text) longest p.1, tokens_sound (suc (length text)) 0 (chars text) t.0 t.1);
        items_are = refl;
      };
      spelled = subst (Answers IsQuery (map item_of t.0)) t.2 (answered_query (map item_of t.0));
    }
