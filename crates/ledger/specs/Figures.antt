-- Worked figures of whole histories, and at least one refusal of each number from 4 to 14.
use Rattle.std.specs.Prelude.{◌≡◌, ℕ, ◌+◌, ◌*◌, cond, List, [], ◌∷◌, ◌++◌, pos, neg_ℤ, Some, None, Ok, Err, ◌==◌}
use Rattle.terms.specs.declared.refusal.Reason.TheVariants.{
  OutOfRange,
  OffStep,
  Present,
  Absent,
  WrongState,
  SameAccount,
  OverLimit,
  CloseExceeds,
  NoSpace,
  NoRate,
  AmountOutOfRange,
}
use Rattle.terms.specs.Refusals.{about, plain}
use Rattle.tariffs.specs.declared.side.Side.{Side}
use Rattle.positions.specs.Positions.{position, flat}
use Rattle.ledger.specs.Calls.{Series, Call, admit, list, trade, close, mark, enter, exercise, settle, Pricing, Event}
use Rattle.ledger.specs.Numbers.{key_of}
use Rattle.ledger.specs.Book.{Book, opened, cash_at, position_at}
use Rattle.ledger.specs.Runs.{judge, run, scratch_after, standing_after}

-- 1,000 cents a contract
abbrev pub thousand : Pricing
thousand s = Some (s.count * 1000)

abbrev pub event : Call → Event
event c = record { call = c; pricing = thousand; scratch = 9 }

abbrev pub begun : Book
begun = opened 0 (record { accounts = 9; series = 9; positions = 9 })

-- January 2025
abbrev pub index : Series
index = record { kind = 0; month = 24300; strike = 0 }

abbrev pub option : ℕ → Series
option k = record { kind = k; month = 24300; strike = 20000 }

-- a trade of a size, a count and a price
abbrev pub deal : Series → ℕ → ℕ → ℕ → ℕ → ℕ → Call
deal x buyer seller z n price = trade (record { series = x; size = z; buyer = buyer; seller = seller; count = n; price = price })

-- account 1 buys from account 2
abbrev pub buys : Series → ℕ → ℕ → ℕ → Event
buys x z n price = event (deal x 1 2 z n price)

abbrev pub sells : Series → ℕ → ℕ → ℕ → Event
sells x z n price = event (deal x 2 1 z n price)

-- two accounts, the first of the kind h, the second a client, and a future marked at 20,000
abbrev pub listed : ℕ → List Event
listed h = event (admit 1 h) ∷ event (admit 2 2) ∷ event (list index (pos 2000000)) ∷ []

abbrev pub bought : List Event
bought = listed 2 ++ (buys index 0 2 2001000 ∷ [])

abbrev pub ended : List Event
ended = bought ++ (event (enter 24300 0 2012600) ∷ event (settle index) ∷ [])

abbrev pub offset : List Event
offset = listed 0 ++ (buys index 0 2 2000000 ∷ sells index 1 7 2000000 ∷ [])

-- three mini calls at a premium of one point, settled at a final price
abbrev pub calls : ℕ → List Event
calls final = listed 2 ++ (event (list (option 1) (pos 5000)) ∷ buys (option 1) 1 3 100 ∷ event (enter 24300 0 final) ∷ event (settle (option 1)) ∷ [])

abbrev pub full : List Event
full = listed 2 ++ (buys index 0 15000 2000000 ∷ [])

-- four puts on the future at a premium of one point, exercised at 19,900, the mark at 19,950; the maker has 15 minis
abbrev pub puts : List Event
puts =
    listed 1 ++ (event (list (option 4) (neg_ℤ (pos 5000))) ∷ buys (option 4) 0 4 100 ∷ buys index 1 15 2000000
    ∷ event (mark 24300 1995000) ∷ event (exercise (option 4) 1990000) ∷ [])

-- a book of another family, and a future of its own marked at 812.00
abbrev pub begun_for : ℕ → Book
begun_for f = opened f (record { accounts = 9; series = 9; positions = 9 })

abbrev pub marked : List Event
marked = event (admit 1 2) ∷ event (admit 2 2) ∷ event (list index (pos 81200)) ∷ []

pub record Figures : Type 0 where
  -- at the mark 20,000 a client buys 2 fulls at 20,010, at 1,000 cents a contract
  pub buyer : cash_at (run begun bought) 1 ≡ neg_ℤ (pos 102000)
  pub seller : cash_at (run begun bought) 2 ≡ pos 98000
  pub exchange : (run begun bought).exchange ≡ pos 4000
  -- settled at 20,126
  pub buyer_at_end : cash_at (run begun ended) 1 ≡ pos 1158000
  pub seller_at_end : cash_at (run begun ended) 2 ≡ neg_ℤ (pos 1162000)
  -- a house's +2 fulls and −7 minis become +1 and −2
  pub house : position_at (run begun offset) (key_of index) 1 ≡ position (pos 1) (neg_ℤ (pos 2))
  -- 3 bought mini calls at 20,000, final price 20,126: 378,000, less the premium of 3,000 and two fees of 3,000 each
  pub call : cash_at (run begun (calls 2012600)) 1 ≡ pos 369000
  -- final price 20,000: no payoff, and no fee for it
  pub call_at_strike : cash_at (run begun (calls 2000000)) 1 ≡ neg_ℤ (pos 6000)
  -- 15,000 fulls bought are within the limit of family 0, and one mini more is refused
  pub limit_kept : position_at (run begun full) (key_of index) 1 ≡ position (pos 15000) (pos 0)
  pub limit_passed : judge (run begun full) (buys index 1 1 2000000) ≡ Err (about OverLimit 1)
  -- 25,000 fulls in family 1, and 20,000 in family 2
  pub limit_of_1 : judge (run (begun_for 1) (marked ++ (buys index 0 25000 81200 ∷ []))) (buys index 1 1 81200) ≡ Err (about OverLimit 1)
  pub limit_of_2 : judge (run (begun_for 2) (marked ++ (buys index 0 20000 81200 ∷ []))) (buys index 0 1 81200) ≡ Err (about OverLimit 1)
  -- in family 2 a client buys 3 fulls at 812.10: 15 units × 20 × 10 lost, and 3,000 of fees
  pub taiwan : cash_at (run (begun_for 2) (marked ++ (buys index 0 3 81210 ∷ []))) 1 ≡ neg_ℤ (pos 6000)
  -- a maker's 4 puts become 4 sold futures, of which 3 go against its 15 minis; its cash: fees of 4,000, 15,000 and 4,000, the premium of
  -- 20,000, a loss of 750,000 on 15 minis as the mark falls by 50 points, and 20 units × 10 × 5,000 from the strike to the mark
  pub put : position_at (run begun puts) (key_of index) 1 ≡ position (neg_ℤ (pos 1)) (pos 0)
  pub put_gone : position_at (run begun puts) (key_of (option 4)) 1 ≡ flat
  pub put_cash : cash_at (run begun puts) 1 ≡ pos 207000

-- ---- refusals
abbrev pub unpriced : ℕ → Call → Event
unpriced scratch c = record { call = c; pricing = λ _. None; scratch = scratch }

-- four calls on the future
abbrev pub on_future : List Event
on_future = listed 2 ++ (event (list (option 3) (pos 0)) ∷ buys (option 3) 0 4 100 ∷ [])

-- no rate for one account
abbrev pub unpriced_for : ℕ → Call → Event
unpriced_for a c = record { call = c; pricing = λ s. cond (s.account == a) None (Some 0); scratch = 9 }

-- a third account, a client
abbrev pub third : List Event
third = event (admit 3 2) ∷ []

-- space for two positions
abbrev pub narrow : Book
narrow = opened 0 (record { accounts = 3; series = 1; positions = 2 })

-- and 999,996 more
abbrev pub million : List Event
million =
    buys (option 3) 0 100000 100 ∷ buys (option 3) 0 100000 100 ∷ buys (option 3) 0 100000 100 ∷ buys (option 3) 0 100000 100 ∷ buys (option 3) 0 100000 100
    ∷ buys (option 3) 0 100000 100 ∷ buys (option 3) 0 100000 100 ∷ buys (option 3) 0 100000 100 ∷ buys (option 3) 0 100000 100 ∷ buys (option 3) 0 99996 100 ∷ []

pub record Refusals : Type 0 where
  -- 4: a family that is none, before the space; a number out of range; a mini where there are none; a fixing of another family
  pub no_family : judge (opened 3 (record { accounts = 0; series = 9; positions = 9 })) (event (admit 1 0)) ≡ Err (plain OutOfRange)
  pub no_account : judge begun (event (admit 65535 0)) ≡ Err (plain OutOfRange)
  pub no_mini : judge (run begun on_future) (buys (option 3) 1 1 100) ≡ Err (plain OutOfRange)
  pub other_family : judge (run begun (listed 2)) (event (enter 24300 1 2000000)) ≡ Err (plain OutOfRange)
  pub no_count : judge (run begun (listed 2)) (buys index 0 0 2000000) ≡ Err (plain OutOfRange)
  pub large_count : judge (run begun (listed 2)) (buys index 0 100001 2000000) ≡ Err (plain OutOfRange)
  -- 5: a strike off its step, a price off its tick
  pub off_step : judge (run begun (listed 2)) (event (list (record { kind = 1; month = 24300; strike = 20050 }) (pos 0))) ≡ Err (plain OffStep)
  pub off_tick : judge (run begun (listed 2)) (buys index 0 1 2000050) ≡ Err (plain OffStep)
  -- 6
  pub admitted_twice : judge (run begun (listed 2)) (event (admit 1 0)) ≡ Err (plain Present)
  pub listed_twice : judge (run begun (listed 2)) (event (list index (pos 2000000))) ≡ Err (plain Present)
  -- 7: the buyer, the seller, a series, a month's future
  pub no_buyer : judge begun (buys index 0 1 2000000) ≡ Err (about Absent 1)
  pub no_seller : judge (run begun (listed 2)) (event (deal index 1 3 0 1 2000000)) ≡ Err (about Absent 3)
  pub no_series : judge (run begun (listed 2)) (buys (option 1) 0 1 100) ≡ Err (plain Absent)
  pub no_future : judge begun (event (list (option 1) (pos 0))) ≡ Err (plain Absent)
  -- 8: a month that is Fixed; a series that is Done; a future settled before the options on it
  pub month_fixed : judge (run begun (listed 2 ++ (event (enter 24300 0 0) ∷ []))) (buys index 0 1 2000000) ≡ Err (plain WrongState)
  pub series_done : judge (run begun (on_future ++ (event (exercise (option 3) 2000000) ∷ []))) (buys (option 3) 0 1 100) ≡ Err (plain WrongState)
  pub still_pending : judge (run begun (on_future ++ (event (enter 24300 0 0) ∷ []))) (event (settle index)) ≡ Err (plain WrongState)
  -- 9; 10 for the seller; 11
  pub own_trade : judge (run begun (listed 2)) (event (deal index 1 1 0 1 2000000)) ≡ Err (plain SameAccount)
  pub seller_over_limit : judge (run begun (full ++ third)) (event (deal index 3 2 1 1 2000000)) ≡ Err (about OverLimit 2)
  pub nothing_to_close : judge (run begun (listed 2)) (event (close index 1 1)) ≡ Err (about CloseExceeds 1)
  -- 12: no space at opening, or too much; a full register, unless a position vanishes for one that appears; too little scratch
  pub no_space : judge (opened 0 (record { accounts = 0; series = 9; positions = 9 })) (event (admit 1 0)) ≡ Err (plain NoSpace)
  pub much_space : judge (opened 0 (record { accounts = 9; series = 9; positions = 4097 })) (event (admit 1 0)) ≡ Err (plain NoSpace)
  pub full_register : judge (run narrow (listed 2 ++ (third ++ (buys index 0 1 2000000 ∷ [])))) (event (deal index 3 2 0 1 2000000)) ≡ Err (plain NoSpace)
  pub place_made : judge (run narrow (listed 2 ++ (third ++ (buys index 0 1 2000000 ∷ [])))) (event (deal index 3 1 0 1 2000000)) ≡ Ok tt
  pub short_scratch : judge (run begun on_future) (unpriced 1 (exercise (option 3) 2000000)) ≡ Err (plain NoSpace)
  -- 13: at a trade, for the buyer and for the seller, and at an exercise; a lapse costs nothing
  pub no_rate : judge (run begun (listed 2)) (unpriced 0 (deal index 1 2 0 1 2000000)) ≡ Err (about NoRate 1)
  pub no_seller_rate : judge (run begun (listed 2)) (unpriced_for 2 (deal index 1 2 0 1 2000000)) ≡ Err (about NoRate 2)
  pub no_exercise_rate : judge (run begun on_future) (unpriced 2 (exercise (option 3) 2000001)) ≡ Err (about NoRate 1)
  pub lapse_is_free : judge (run begun on_future) (unpriced 2 (exercise (option 3) 2000000)) ≡ Ok tt
  -- 14
  pub count_range : judge (run begun (on_future ++ million)) (buys (option 3) 0 1 100) ≡ Err (about AmountOutOfRange 1)

-- a tariff whose standing counts the contracts that were charged
abbrev pub counting : ℕ → Side → ℕ
counting n s = n + s.count

pub record Afterwards : Type 0 where
  -- scratch of three places is cleared in front by an accepted exercise and by one that finds no rate, and left by one that finds too little
  pub cleared : scratch_after (run begun on_future) (record { call = exercise (option 3) 2000001; pricing = thousand; scratch = 3 }) (pos 7 ∷ pos 8 ∷ pos 9 ∷ []) ≡ pos 0 ∷ pos 0 ∷ pos 9 ∷ []
  pub cleared_unpriced : scratch_after (run begun on_future) (unpriced 3 (exercise (option 3) 2000001)) (pos 7 ∷ pos 8 ∷ pos 9 ∷ []) ≡ pos 0 ∷ pos 0 ∷ pos 9 ∷ []
  pub left : scratch_after (run begun on_future) (unpriced 1 (exercise (option 3) 2000001)) (pos 7 ∷ []) ≡ pos 7 ∷ []
  -- a trade of 2 charges both sides; an exercise the 4 calls that are held, once; a refused call nothing
  pub both_charged : standing_after counting 0 (run begun (listed 2)) (buys index 0 2 2000000) ≡ 4
  pub holder_charged : standing_after counting 0 (run begun on_future) (event (exercise (option 3) 2000001)) ≡ 4
  pub none_charged : standing_after counting 0 (run begun on_future) (unpriced 1 (exercise (option 3) 2000001)) ≡ 0
