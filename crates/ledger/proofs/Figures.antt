-- The figures hold by computing.
use Rattle.std.proofs.Common.{refl}
use Rattle.registers.specs.Rows.{lookup, put, without}
use Rattle.registers.specs.Sums.{total_ℤ}
use Rattle.positions.specs.Money.{amount}
use Rattle.ledger.specs.Rows.{change, revise}
use Rattle.ledger.specs.Book.{weight, delta_of}
use Rattle.ledger.specs.Charges.{bought_fees}
use Rattle.ledger.specs.Post.{pay, cash_of, assigned, post}
use Rattle.ledger.specs.Judge.{need, unless, also, judge_call}
use Rattle.ledger.specs.Runs.{judge, afterwards, run}
use Rattle.ledger.specs.Figures.{Figures, Refusals, Afterwards}

pub figures : Figures
unfolding lookup put without total_ℤ amount change revise weight delta_of bought_fees pay cash_of assigned post need unless also judge_call judge afterwards run
figures = record {
  buyer = refl;
  seller = refl;
  exchange = refl;
  buyer_at_end = refl;
  seller_at_end = refl;
  house = refl;
  call = refl;
  call_at_strike = refl;
  limit_kept = refl;
  limit_passed = refl;
  limit_of_1 = refl;
  limit_of_2 = refl;
  taiwan = refl;
  put = refl;
  put_gone = refl;
  put_cash = refl;
}

pub refusals : Refusals
unfolding lookup put without total_ℤ amount change revise weight delta_of bought_fees pay cash_of assigned post need unless also judge_call judge afterwards run
refusals = record {
  no_family = refl;
  no_account = refl;
  no_mini = refl;
  other_family = refl;
  no_count = refl;
  large_count = refl;
  off_step = refl;
  off_tick = refl;
  admitted_twice = refl;
  listed_twice = refl;
  no_buyer = refl;
  no_seller = refl;
  no_series = refl;
  no_future = refl;
  month_fixed = refl;
  series_done = refl;
  still_pending = refl;
  own_trade = refl;
  seller_over_limit = refl;
  nothing_to_close = refl;
  no_space = refl;
  much_space = refl;
  full_register = refl;
  place_made = refl;
  short_scratch = refl;
  no_rate = refl;
  no_seller_rate = refl;
  no_exercise_rate = refl;
  lapse_is_free = refl;
  count_range = refl;
}

pub afterwards_figures : Afterwards
unfolding lookup put without total_ℤ amount change revise weight delta_of bought_fees pay cash_of assigned post need unless also judge_call judge afterwards run
afterwards_figures = record {
  cleared = refl;
  cleared_unpriced = refl;
  left = refl;
  both_charged = refl;
  holder_charged = refl;
  none_charged = refl;
}
