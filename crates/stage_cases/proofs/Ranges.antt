-- The scripts are in their ranges, so the law of schedules applies to them.
use Rattle.std.proofs.Common.{rules}
use Rattle.std.proofs.lemmas.List.Elements.{All-from_recursion}
use Rattle.abstract_log.specs.declared.script.Script.{Script}
use Rattle.abstract_log.specs.Runs.{IsRun}
use Rattle.abstract_log.specs.Turns.{IsStep}
use Rattle.stage_world.proofs.AllTurns.{schedule}
use Rattle.stage_cases.specs.Pieces.{events_in}
use Rattle.stage_cases.specs.Fitting.{IsInRange}
use Rattle.stage_cases.specs.Reading.{gap_script, behind_script, collect_script, floor_script, asked_script}
use Rattle.stage_cases.specs.Linking.{cause_script, repeat_script, lose_script}
use Rattle.stage_cases.specs.Idling.{idle_script}
use Rattle.stage_cases.specs.Sharing.{late_script, handed_script}

pub played : (script : Script) → IsInRange script → IsRun script.workload (events_in script)
played script within = (schedule script script.steps within.fits within.steps).0

pub gap_in_range : IsInRange gap_script
gap_in_range = record { fits = search rules; steps = All-from_recursion (IsStep gap_script.workload) gap_script.steps (search rules) }

pub behind_in_range : IsInRange behind_script
behind_in_range = record { fits = search rules; steps = All-from_recursion (IsStep behind_script.workload) behind_script.steps (search rules) }

pub collect_in_range : IsInRange collect_script
collect_in_range = record { fits = search rules; steps = All-from_recursion (IsStep collect_script.workload) collect_script.steps (search rules) }

pub floor_in_range : IsInRange floor_script
floor_in_range = record { fits = search rules; steps = All-from_recursion (IsStep floor_script.workload) floor_script.steps (search rules) }

pub cause_in_range : IsInRange cause_script
cause_in_range = record { fits = search rules; steps = All-from_recursion (IsStep cause_script.workload) cause_script.steps (search rules) }

pub repeat_in_range : IsInRange repeat_script
repeat_in_range = record { fits = search rules; steps = All-from_recursion (IsStep repeat_script.workload) repeat_script.steps (search rules) }

pub lose_in_range : IsInRange lose_script
lose_in_range = record { fits = search rules; steps = All-from_recursion (IsStep lose_script.workload) lose_script.steps (search rules) }

pub idle_in_range : IsInRange idle_script
idle_in_range = record { fits = search rules; steps = All-from_recursion (IsStep idle_script.workload) idle_script.steps (search rules) }

pub late_in_range : IsInRange late_script
late_in_range = record { fits = search rules; steps = All-from_recursion (IsStep late_script.workload) late_script.steps (search rules) }

pub handed_in_range : IsInRange handed_script
handed_in_range = record { fits = search rules; steps = All-from_recursion (IsStep handed_script.workload) handed_script.steps (search rules) }

pub asked_in_range : IsInRange asked_script
asked_in_range = record { fits = search rules; steps = All-from_recursion (IsStep asked_script.workload) asked_script.steps (search rules) }
