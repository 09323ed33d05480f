use Rattle.vk_construct_places.proofs.Nodes.{loaded_deref, loaded_index, place_deref, place_first, place_index, pointer_address}
use Rattle.vk_construct_places.proofs.laws.places_follow_pointers.Goals as goal

pub returns-clause-deref : goal.returns-clause-deref
returns-clause-deref c = place_deref

pub returns-clause-index : goal.returns-clause-index
returns-clause-index c = place_index

pub returns-clause-first : goal.returns-clause-first
returns-clause-first c = place_first

pub returns-clause-address : goal.returns-clause-address
returns-clause-address c = pointer_address

pub returns-clause-element : goal.returns-clause-element
returns-clause-element c = λ a b d scope tb l p base e to written r rd m f it lm ty y x. loaded_index a b d scope tb l p base to written r rd m f it lm ty y e x

pub returns-clause-pointed : goal.returns-clause-pointed
returns-clause-pointed c = loaded_deref
