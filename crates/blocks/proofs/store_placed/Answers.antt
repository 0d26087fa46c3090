-- `store_placed` meets its contract: the places that are told are those of these blocks. Assumes nothing.
use lib.ListN.{length}
use Rattle.model.proofs.Blocks.{mounted_primaries}
use Rattle.blocks.proofs.Asked.{places_of, places_movable}
use Rattle.blocks.proofs.store_placed.Goals as goal

pub places-requires : goal.places-requires
places-requires c =
    let asked = c.requires in
    let m = asked.0 in
    (m.mounted.whole_map, m.mounted.few_alternates, rw asked.1 m.stored, rw asked.1 (mounted_primaries _ _ _ m.mounted))

pub store_window-requires : goal.store_window-requires
store_window-requires c =
    let a = c.args in
    let asked = c.requires in
    let told = places_of a.d a.map.now a.store.now a.block _ a.primaries _ c.places.ensures asked.1 asked.0.stored in
    places_movable a.d a.map.now a.store.now a.block _ a.chain.now a.a a.main.now (length a.at.now) a.n asked.0 told.0 told.1
