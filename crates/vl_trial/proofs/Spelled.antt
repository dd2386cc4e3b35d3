-- The queries of the trial are read by computing.
use Rattle.std.proofs.Common.{◌≡◌, true, Some, Ok, refl}
use Rattle.lq_grammar.specs.Query.{IsQueryText}
use Rattle.vl_trial.specs.Questions.{all_counted, errors_by_app, slow_counted}
use Rattle.vl_trial.specs.QueryTexts.{count_text, errors_text, slow_text}
use Rattle.vl_trial.proofs.Asking.{fits, asked_in, asks_so}

count_fits : fits count_text ≡ true
unfolding fits
count_fits = refl

count_read : asked_in count_text ≡ Some (Ok all_counted)
unfolding asked_in
count_read = refl

pub count_asks : IsQueryText count_text all_counted
count_asks = asks_so count_text all_counted count_fits count_read

errors_fits : fits errors_text ≡ true
unfolding fits
errors_fits = refl

errors_read : asked_in errors_text ≡ Some (Ok errors_by_app)
unfolding asked_in
errors_read = refl

pub errors_asks : IsQueryText errors_text errors_by_app
errors_asks = asks_so errors_text errors_by_app errors_fits errors_read

slow_fits : fits slow_text ≡ true
unfolding fits
slow_fits = refl

slow_read : asked_in slow_text ≡ Some (Ok slow_counted)
unfolding asked_in
slow_read = refl

pub slow_asks : IsQueryText slow_text slow_counted
slow_asks = asks_so slow_text slow_counted slow_fits slow_read
