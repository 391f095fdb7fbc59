-- A trade's numbers, and a deal's, as the rules have them.
use Rattle.series.specs.declared.series.Series.{Series}
use Rattle.terms.specs.Kinds.{kind_number, size_number}
use Rattle.tables.specs.Model.{numbered}
use Rattle.ledger.specs.Calls as calls
use Rattle.ledger.specs.Calls.{Event, Pricing}
use Rattle.trading.specs.declared.order.Trade.{Trade}
use Rattle.trading.specs.declared.deal.Deal.{Deal}

abbrev pub trade_of : Trade → calls.Trade
trade_of t = record {
  series = numbered t.series;
  size = t.size;
  buyer = t.buyer;
  seller = t.seller;
  count = t.count;
  price = t.price;
}

-- the event of a trade, at a tariff's prices in its standing before
abbrev pub event_of : Pricing → calls.Trade → Event
event_of p t = record { call = calls.trade t; pricing = p; scratch = 0 }

abbrev pub series_from : Series → calls.Series
series_from s = record { kind = kind_number s.kind; month = s.month.number; strike = s.strike }

-- the trade that a deal is
abbrev pub trade_in : Deal → calls.Trade
trade_in d = record {
  series = series_from d.series;
  size = size_number d.size;
  buyer = d.buyer.number;
  seller = d.seller.number;
  count = d.count.count;
  price = d.price.hundredths;
}
