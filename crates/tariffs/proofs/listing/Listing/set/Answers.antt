use Rattle.std.proofs.Common.{rules}
use Rattle.std.proofs.lemmas.List.{map-set}
use Rattle.tariffs.specs.Rates.{cents_of}
use Rattle.tariffs.proofs.listing.Listing.set.Goals as goal

pub returns : goal.returns
returns c =
    let written = map-set cents_of c.args.self.now.rates c.place.result c.in_ok-self.field-0 in
    search (rules, written)
