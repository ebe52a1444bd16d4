-- Worked examples of full queues, computed.
use Rattle.std.specs.Prelude.{◌≡◌, Some, None, refl}
use Rattle.pfl_base.specs.declared.state_name.StateName.{StateName}
use Rattle.pfl_edits.proofs.ForCallers as maps
use Rattle.pfl_queue.specs.declared.Kind.TheVariants.{Insert}
use Rattle.pfl_queue.specs.declared.QueueFault.TheVariants.{QueueFull, CountFull}
use Rattle.pfl_queue.specs.Queues.{empty_queue, room_fault, mark_fault, marked, requested, request_fault}

abbrev name : StateName
name = record { creator = 1; id = 1 }

abbrev other : StateName
other = record { creator = 1; id = 2 }

last_number : mark_fault (empty_queue 4 4294967295) name ≡ Some CountFull
unfolding maps.computing
last_number = refl

one_before_the_last : mark_fault (empty_queue 4 4294967294) name ≡ None
unfolding maps.computing
one_before_the_last = refl

room_past_the_last : room_fault (empty_queue 4 4294967295) name ≡ None
unfolding maps.computing
room_past_the_last = refl

full_after_the_last : room_fault (marked (empty_queue 1 4294967295) name Insert) other ≡ Some QueueFull
unfolding maps.computing
full_after_the_last = refl

full : mark_fault (marked (empty_queue 1 1) name Insert) other ≡ Some QueueFull
unfolding maps.computing
full = refl

no_more_room_wanted : mark_fault (marked (empty_queue 1 1) name Insert) name ≡ None
unfolding maps.computing
no_more_room_wanted = refl

listed_already : request_fault (requested (empty_queue 1 1) name) name ≡ None
unfolding maps.computing
listed_already = refl

no_room_for_a_request : request_fault (requested (empty_queue 1 1) name) other ≡ Some QueueFull
unfolding maps.computing
no_room_for_a_request = refl
