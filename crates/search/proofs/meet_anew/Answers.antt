-- What the search counts and what is added up is what the region meets.
use Rattle.search.specs.Looking.{looking_counting, looking_meets}
use Rattle.search.proofs.meet_anew.Goals as goal

pub count_beside-joined-requires : goal.count_beside-joined-requires
count_beside-joined-requires c = looking_counting c.requires

pub returns : goal.returns
returns c = record { meets = looking_meets c.requires c.count_beside-joined.ensures.colouring_unchanged c.count_beside-joined.ensures.value (c.areas_of-sums.ensures.here_value, c.areas_of-sums.ensures.there_value); colouring_unchanged = c.count_beside-joined.ensures.colouring_unchanged }
