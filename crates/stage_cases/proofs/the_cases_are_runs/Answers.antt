-- Each script is in its ranges, so the law of schedules applies to it.
use Rattle.stage_cases.specs.Reading.{gap_script, behind_script, collect_script, floor_script, asked_script}
use Rattle.stage_cases.specs.Linking.{cause_script, repeat_script, lose_script}
use Rattle.stage_cases.proofs.Ranges.{played, gap_in_range, behind_in_range, collect_in_range, floor_in_range, cause_in_range, repeat_in_range, lose_in_range, asked_in_range}
use Rattle.stage_cases.proofs.the_cases_are_runs.Goals as goal

pub returns-clause-gap : goal.returns-clause-gap
returns-clause-gap c = played gap_script gap_in_range

pub returns-clause-cause : goal.returns-clause-cause
returns-clause-cause c = played cause_script cause_in_range

pub returns-clause-repeat : goal.returns-clause-repeat
returns-clause-repeat c = played repeat_script repeat_in_range

pub returns-clause-lose : goal.returns-clause-lose
returns-clause-lose c = played lose_script lose_in_range

pub returns-clause-behind : goal.returns-clause-behind
returns-clause-behind c = played behind_script behind_in_range

pub returns-clause-collect : goal.returns-clause-collect
returns-clause-collect c = played collect_script collect_in_range

pub returns-clause-floor : goal.returns-clause-floor
returns-clause-floor c = played floor_script floor_in_range

pub returns-clause-asked : goal.returns-clause-asked
returns-clause-asked c = played asked_script asked_in_range
