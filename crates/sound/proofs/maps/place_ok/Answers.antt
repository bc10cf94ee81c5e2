use Rattle.sound.proofs.MapLaws.{place-blank, place_held}
use Rattle.sound.proofs.maps.place_ok.Goals as goal

pub returns-then-eq : goal.returns-then-eq
returns-then-eq c = place-blank _ _ _ c.mapping_at-m.ensures c.eq.ensures c.if-eq.true c.number_at.ensures

pub returns-else-eq : goal.returns-else-eq
returns-else-eq c = place_held _ _ _ c.mapping_at-m.ensures c.eq.ensures c.if-eq.false c.mapping_ok.ensures
