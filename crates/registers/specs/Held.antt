-- What a register holds.
use Rattle.std.specs.Prelude.{ℕ, List, vec_items}
use Rattle.std.specs.Vec.{with_items}
use Rattle.std.specs.List.{zip}
use Rattle.registers.specs.Rows.{Rows}
use Rattle.registers.specs.declared.keyed.Register.{Register}

abbrev pub keys_of : {X : Type 0} → Register X → List ℕ
keys_of r = vec_items r.keys

abbrev pub contents_of : {X : Type 0} → Register X → List X
contents_of r = vec_items r.contents

-- its rows, in order
unfoldable pub rows_of : {X : Type 0} → Register X → Rows X
rows_of r = zip (keys_of r) (contents_of r)

-- how many rows it may have
abbrev pub room_of : {X : Type 0} → Register X → ℕ
room_of r = r.room

-- the register with other contents, as many
abbrev pub with_contents : {X : Type 0} → Register X → List X → Register X
with_contents r ws = record { keys = r.keys; contents = with_items r.contents ws; room = r.room; even = r.even; fits = r.fits; ascends = r.ascends }
