-- Made by tools/promises.py --write: every theorem that docs/PROMISES.md names. One that is not proved is refused here.
use Rattle.leap.specs.Published.{published}
use Rattle.calendar_laws.specs.Firsts.{all_of_months, months_of_all}
use Rattle.calendar_laws.specs.Undo.{date_of_day_lem, day_of_date_lem, has_date}
use Rattle.decimal_laws.proofs.Trip.{later as decimal_laws_trip_later, trip as decimal_laws_trip_trip}
use Rattle.decimal_laws.proofs.Unique.{wrote_one}
use Rattle.leap_laws.proofs.Functions.{later as leap_laws_functions_later, only, the_one, undoes}
use Rattle.leap_laws.proofs.Instances.{correlated_back}
use Rattle.leap_laws.proofs.Marks.{change_ignores, judged_ignores, keeps_mark, keeps_mark_instance}
use Rattle.sbt_laws.proofs.Answers.{dates as sbt_laws_answers_dates, exact as sbt_laws_answers_exact, turns as sbt_laws_answers_turns}
use Rattle.sbt_laws.proofs.Cases.{date_marked as sbt_laws_cases_date_marked, night, receipt_covered as sbt_laws_cases_receipt_covered, receipt_received as sbt_laws_cases_receipt_received}
use Rattle.sbt_laws.proofs.Fresh.{kept_date as sbt_laws_fresh_kept_date, kept_lacking as sbt_laws_fresh_kept_lacking, kept_later as sbt_laws_fresh_kept_later, kept_tick, now_dates as sbt_laws_fresh_now_dates, tai_date_base, tai_date_later, tai_kept, tai_tick_base, utc_date_stays as sbt_laws_fresh_utc_date_stays, utc_tick_stays}
use Rattle.sbt_laws.proofs.Later.{as_before_lem as sbt_laws_later_as_before_lem, at_receipt, before_first as sbt_laws_later_before_first, eleven_early as sbt_laws_later_eleven_early, list_ends as sbt_laws_later_list_ends, microsecond_later as sbt_laws_later_microsecond_later, nine_lacking as sbt_laws_later_nine_lacking, not_after_lem as sbt_laws_later_not_after_lem, only_later as sbt_laws_later_only_later, past_list as sbt_laws_later_past_list, past_span as sbt_laws_later_past_span, sixty_before as sbt_laws_later_sixty_before, sixty_lacking as sbt_laws_later_sixty_lacking, span_ends as sbt_laws_later_span_ends}
use Rattle.sbt_laws.proofs.Marks.{correlated as sbt_laws_marks_correlated}
use Rattle.sbt_laws.proofs.NewYear.{across as sbt_laws_new_year_across, back_across as sbt_laws_new_year_back_across, dating_refusals as sbt_laws_new_year_dating_refusals, exactly_time, receipt_covered as sbt_laws_new_year_receipt_covered, receipt_received as sbt_laws_new_year_receipt_received, time_trip as sbt_laws_new_year_time_trip, too_far as sbt_laws_new_year_too_far, too_late as sbt_laws_new_year_too_late, trip as sbt_laws_new_year_trip, turning_refusals as sbt_laws_new_year_turning_refusals}
use Rattle.sbt_laws.proofs.Night.{no_wrap as sbt_laws_night_no_wrap, outside_window as sbt_laws_night_outside_window, received_after as sbt_laws_night_received_after, received_before as sbt_laws_night_received_before}
use Rattle.sbt_laws.proofs.Stays.{date_base, date_stays as sbt_laws_stays_date_stays, tick_base, tick_stays}
use Rattle.sbt_laws.proofs.Trips.{little_earlier as sbt_laws_trips_little_earlier, never_later as sbt_laws_trips_never_later, record_back as sbt_laws_trips_record_back, same_tick}
use Rattle.goce_laws.proofs.Answers.{dates as goce_laws_answers_dates, exact as goce_laws_answers_exact, turns as goce_laws_answers_turns}
use Rattle.goce_laws.proofs.Cases.{date_marked as goce_laws_cases_date_marked, receipt_covered as goce_laws_cases_receipt_covered, receipt_received as goce_laws_cases_receipt_received, sum}
use Rattle.goce_laws.proofs.Fresh.{kept_count, kept_date as goce_laws_fresh_kept_date, kept_lacking as goce_laws_fresh_kept_lacking, kept_later as goce_laws_fresh_kept_later, now_dates as goce_laws_fresh_now_dates, utc_count_stays, utc_date_stays as goce_laws_fresh_utc_date_stays}
use Rattle.goce_laws.proofs.Later.{as_before_lem as goce_laws_later_as_before_lem, before_first as goce_laws_later_before_first, eleven_early as goce_laws_later_eleven_early, list_ends as goce_laws_later_list_ends, microsecond_later as goce_laws_later_microsecond_later, nine_lacking as goce_laws_later_nine_lacking, not_after_lem as goce_laws_later_not_after_lem, only_later as goce_laws_later_only_later, past_list as goce_laws_later_past_list, past_span as goce_laws_later_past_span, sixty_before as goce_laws_later_sixty_before, sixty_lacking as goce_laws_later_sixty_lacking, span_ends as goce_laws_later_span_ends}
use Rattle.goce_laws.proofs.Marks.{correlated as goce_laws_marks_correlated}
use Rattle.goce_laws.proofs.NewYear.{across as goce_laws_new_year_across, back_across as goce_laws_new_year_back_across, dating_refusals as goce_laws_new_year_dating_refusals, receipt_covered as goce_laws_new_year_receipt_covered, time_trip as goce_laws_new_year_time_trip, too_far as goce_laws_new_year_too_far, too_late as goce_laws_new_year_too_late, trip as goce_laws_new_year_trip, turning_refusals as goce_laws_new_year_turning_refusals}
use Rattle.goce_laws.proofs.Night.{no_wrap as goce_laws_night_no_wrap, outside_window as goce_laws_night_outside_window, received_after as goce_laws_night_received_after, received_before as goce_laws_night_received_before}
use Rattle.goce_laws.proofs.Stays.{count_stays, date_stays as goce_laws_stays_date_stays}
use Rattle.goce_laws.proofs.Trips.{little_earlier as goce_laws_trips_little_earlier, never_later as goce_laws_trips_never_later, record_back as goce_laws_trips_record_back, same_count}
use Rattle.season_laws.proofs.Again.{read_written}
use Rattle.season_laws.proofs.Contents.{one_entry}
use Rattle.season_laws.proofs.Meets.{contents_alone_met, correlations_added_met, exactly_met, fifteen_answered_met, fresh_season_met, one_correlation_met, one_entry_met, outside_met, question_agrees_met, read_back_met, read_written_met, same_words_met, uncovered_met, written_read_met}
use Rattle.season_laws.proofs.Question.{contents_alone, correlations_added, fifteen_answered, fresh_season, one_correlation, question_agrees}
use Rattle.season_laws.proofs.Trips.{read_back as season_laws_trips_read_back, same_words}
use Rattle.season_laws.proofs.Written.{written_read}
use Rattle.layout_laws.proofs.Back.{cryosat_again, cuc_again, proteus_again, siral_again}
use Rattle.layout_laws.proofs.Fields.{cryosat_exact, cuc_exact, goce_exact, obet_exact, proteus_exact, sbt_exact, siral_exact}
use Rattle.layout_laws.proofs.Meets.{again_meets, times_meet}
use Rattle.layout_laws.proofs.Times.{cryosat_same, cuc_last, proteus_kept_lem, proteus_last, siral_same}
use Rattle.runs_laws.proofs.Back.{never_back_lem}
use Rattle.runs_laws.proofs.Cut.{cut}
use Rattle.runs_laws.proofs.Meets.{ahead_least_met, cut_met, never_back_met, right_met, run_of_one_met, true_dates_met}
use Rattle.runs_laws.proofs.One.{run_of_one}
use Rattle.runs_laws.proofs.Right.{ahead_least, right, true_dates}
use Rattle.text_laws.specs.Back.{none_refused, read_back as text_laws_back_read_back}
use Rattle.lines_laws.specs.Calls.{dated, kept_for}
use Rattle.lines_laws.specs.Each.{one_each}
use Rattle.lines_laws.specs.First.{line_numbers, line_outcome}
use Rattle.lines_laws.specs.Run.{any_blocks}
use Rattle.c_api_laws.proofs.Marks.{by_handed, decimal_unmarked, decimal_unmarked_instance, handed_again, handed_again_instance, known_mark_instance, mark_ignored as c_api_laws_marks_mark_ignored, mark_ignored_instance as c_api_laws_marks_mark_ignored_instance, plain_source, plain_source_instance, unknown_mark, unknown_mark_instance}
use Rattle.c_api_laws.proofs.One.{decimal_one}
use Rattle.marked.proofs.Marked.{by_receipt, marked, ten_cases}
use Rattle.promises.specs.First.{exactly, first_is, first_then, promised, then_first}
use Rattle.promises.specs.Instances.{change_for_c_instance, cryosat_time_instance, cuc_time_instance, date_for_c_instance, decimal_write_for_c_instance, decimal_write_instance, exactly_instance, goce_count_for_c_instance, goce_date_for_c_instance, gps_to_utc_never_11_instance, handed_gps_to_utc_never_11_instance, kept_instance, line_instance, paper_instance, proteus_read_never_7_instance, proteus_time_instance, refusal_instance, siral_time_instance, sixty_instance, take_instance, text_read_for_c_instance, text_write_for_c_instance, tick_for_c_instance, without_list_never_5_instance}
use Rattle.promises.specs.Marks.{mark_ignored as promises_marks_mark_ignored, mark_ignored_instance as promises_marks_mark_ignored_instance}
use Rattle.promises.specs.Never.{gps_to_utc_never_11, handed_gps_to_utc_never_11, line_never_5, proteus_read_never_7, without_list_never_5}
use Rattle.promises.specs.One.{answer_returns_0, change as promises_one_change, cryosat_fields_read_lem as promises_one_cryosat_fields_read_lem, cryosat_fields_write_lem as promises_one_cryosat_fields_write_lem, cryosat_read_lem as promises_one_cryosat_read_lem, cryosat_write_lem as promises_one_cryosat_write_lem, cuc_fields_read_lem as promises_one_cuc_fields_read_lem, cuc_fields_write_lem as promises_one_cuc_fields_write_lem, cuc_read_lem as promises_one_cuc_read_lem, cuc_write_lem as promises_one_cuc_write_lem, date_of_lem, day_of_lem, decimal_read_lem as promises_one_decimal_read_lem, decimal_write_lem as promises_one_decimal_write_lem, goce_count as promises_one_goce_count, goce_date as promises_one_goce_date, goce_read_lem as promises_one_goce_read_lem, goce_write_lem, gps_to_tai_lem, gps_to_utc_lem, line, obet_read_lem as promises_one_obet_read_lem, obet_write_lem, proteus_fields_read_lem as promises_one_proteus_fields_read_lem, proteus_fields_write_lem as promises_one_proteus_fields_write_lem, proteus_read_lem as promises_one_proteus_read_lem, proteus_write_lem as promises_one_proteus_write_lem, record_judged_lem, rest_stays, sbt_date_lem as promises_one_sbt_date_lem, sbt_read_lem as promises_one_sbt_read_lem, sbt_tick_lem as promises_one_sbt_tick_lem, sbt_write_lem, siral_fields_read_lem as promises_one_siral_fields_read_lem, siral_fields_write_lem as promises_one_siral_fields_write_lem, siral_read_lem as promises_one_siral_read_lem, siral_write_lem as promises_one_siral_write_lem, tai_to_gps_lem, tai_to_utc_lem, take, text_read_lem as promises_one_text_read_lem, text_write_lem as promises_one_text_write_lem, utc_to_gps_lem, utc_to_tai_lem}
use Rattle.promises.specs.OneForC.{answer_returns_0_for_c, change as promises_one_for_c_change, cryosat_fields_read_lem as promises_one_for_c_cryosat_fields_read_lem, cryosat_fields_write_lem as promises_one_for_c_cryosat_fields_write_lem, cryosat_read_lem as promises_one_for_c_cryosat_read_lem, cryosat_write_lem as promises_one_for_c_cryosat_write_lem, cuc_fields_read_lem as promises_one_for_c_cuc_fields_read_lem, cuc_fields_write_lem as promises_one_for_c_cuc_fields_write_lem, cuc_read_lem as promises_one_for_c_cuc_read_lem, cuc_write_lem as promises_one_for_c_cuc_write_lem, decimal_read_lem as promises_one_for_c_decimal_read_lem, decimal_write_lem as promises_one_for_c_decimal_write_lem, goce_count as promises_one_for_c_goce_count, goce_date as promises_one_for_c_goce_date, goce_read_lem as promises_one_for_c_goce_read_lem, obet_read_lem as promises_one_for_c_obet_read_lem, proteus_fields_read_lem as promises_one_for_c_proteus_fields_read_lem, proteus_fields_write_lem as promises_one_for_c_proteus_fields_write_lem, proteus_read_lem as promises_one_for_c_proteus_read_lem, proteus_write_lem as promises_one_for_c_proteus_write_lem, sbt_date_lem as promises_one_for_c_sbt_date_lem, sbt_read_lem as promises_one_for_c_sbt_read_lem, sbt_tick_lem as promises_one_for_c_sbt_tick_lem, siral_fields_read_lem as promises_one_for_c_siral_fields_read_lem, siral_fields_write_lem as promises_one_for_c_siral_fields_write_lem, siral_read_lem as promises_one_for_c_siral_read_lem, siral_write_lem as promises_one_for_c_siral_write_lem, text_read_lem as promises_one_for_c_text_read_lem, text_write_lem as promises_one_for_c_text_write_lem}
use Rattle.promises.specs.OneRun.{siral_run_lem}
use Rattle.promises.specs.OneSeason.{season_covering_for_c, season_covering_lem, season_read_lem, season_write_lem}
use Rattle.promises.specs.Three.{change_for_c, date_for_c, goce_count_for_c, goce_date_for_c, old_dates_stay, text_read_for_c, text_write_for_c, tick_for_c}
use Rattle.promises.specs.Two.{cryosat_time, cuc_time, proteus_time, siral_time}
