use Rattle.schedule_meaning.proofs.Counted.{few_launches, places_of_launches, later_of_launches}
use Rattle.schedule_meaning.proofs.laws.fitting_schedules_are_small.Goals as goal

pub returns : goal.returns
returns c = record {
  few = few_launches;
  places = places_of_launches;
  later = later_of_launches;
}
