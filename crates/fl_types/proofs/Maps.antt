-- Lists of the integers of slots.
use Rattle.std.proofs.lemmas.List.{take-map, drop-map, map-id, map_more, map-append, length-map}

-- a map goes through a slice, and the map that changes nothing does
pub ruleset maps = (take-map, drop-map, map-id)

-- one more of a list that is mapped
pub ruleset steps = (map_more, map-append)
