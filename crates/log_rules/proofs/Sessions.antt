-- The sessions give the logs printed beside them: antt computes every row. Assumes nothing.
use Rattle.texts.specs.Texts.{same_text}
use Rattle.layout.specs.Fields.{field, one_of, starts, readable, offset, content, encoded}
use Rattle.digits.specs.Decimal.{all_digits, number_from, digits_of, digits}
use Rattle.calendar.specs.Calendar.{days_in}
use Rattle.addresses.specs.Addresses.{is_branch, branch_address, address_of, address_text}
use Rattle.places.specs.Bids.{is_place, place_of, places_in, place_text, places_text}
use Rattle.envelope.specs.Refusals.{first_holding}
use Rattle.envelope.specs.Application.{layout6_g1, fields_of, is_identifier, written}
use Rattle.announcement.specs.Announcement.{layout6_g0, tender_type_of, joined, numbers_in, characteristics_of, references_of, announcement_of}
use Rattle.rules.specs.Opening.{any, not_announcement, other_origin, well_formed, malformed_announcement, unknown_type, impossible, impossible_numbers, dates_disordered, rising, bad_codes, limits_miscounted, limit_too_long, opening_refused, terms_of}
use Rattle.rules.specs.Receiving.{bids_in, when, sender_errors, date_errors, gap, fine_rate, small_bid, uneven_bid, over_maximum, bid_errors, place_errors, errors, is_empty, is_sound, submission, new_entry, new_book, is_after, is_from, takes, hold, returned_errors}
use Rattle.rules.specs.Allotment.{filled, better_rate, is_in, is_better, is_equal, keep, total, total_better, total_equal, binary_length_within, binary_length, first_digits, division_at, division, share, shares, cents_left, cent, award, awards_from, awards, reaches, best_of, best_rate, marginal_rate}
use Rattle.rules.specs.Cuts.{invests, is_capped, cut_bids, cut_book}
use Rattle.rules.specs.Replies.{confirmation, error_text, error_texts, shown, returned_message}
use Rattle.rules.specs.Calls.{open_tender, is_revoked, is_over, clock_invalid, space_short, bids_in_book, receiving_refused, reply, book_after, answer_to, answer_with, answer_unless, receive, before_cut_off, is_open, is_announced, bids_exceed, closing_refused, close, allotting_refused, allot, revoking_refused, revoke, bids_taken, bid_awards, awards_given, marginal_given, in640, allotment}
use Rattle.rules.specs.Messages.{altered, by_slashes, characteristics_with, announcement_with, announcement, ten, numbers_between, numbers, message, message_with}
use Rattle.log_rules.specs.Lines.{confirmed_line, returned_line, refused_line, award_line, place_lines, award_lines}
use Rattle.log_rules.specs.Steps.{groups, admitted_in, admission_step, announcement_step, date_of, time_of, reception_in, answer_line, reception_step, closing_step, revocation_step, allotting_step, step, holds_field, walked, log_of}
use Rattle.log_rules.specs.Sessions.{received_at, session, printed, all_printed, refused_with, opening_fields, application_by, confirmed_as, application_from, branches, branches_printed, sessions, SessionsPrinted}

pub sessions-printed : SessionsPrinted
unfolding same_text field one_of starts readable offset content encoded all_digits number_from digits_of digits days_in is_branch branch_address address_of address_text is_place place_of places_in place_text places_text first_holding layout6_g0 tender_type_of joined numbers_in characteristics_of references_of announcement_of layout6_g1 fields_of is_identifier written any not_announcement other_origin well_formed malformed_announcement unknown_type impossible impossible_numbers dates_disordered rising bad_codes limits_miscounted limit_too_long opening_refused terms_of bids_in when sender_errors date_errors gap fine_rate small_bid uneven_bid over_maximum bid_errors place_errors errors is_empty is_sound submission new_entry new_book is_after is_from takes hold returned_errors filled better_rate is_in is_better is_equal keep total total_better total_equal binary_length_within binary_length first_digits division_at division share shares cents_left cent award awards_from awards reaches best_of best_rate marginal_rate open_tender is_revoked is_over clock_invalid space_short bids_in_book receiving_refused reply book_after answer_to answer_with answer_unless receive invests is_capped cut_bids cut_book bids_taken bid_awards awards_given marginal_given in640 allotment altered by_slashes characteristics_with announcement_with announcement ten numbers_between numbers message message_with allot allotting_refused before_cut_off bids_exceed close closing_refused confirmation error_text error_texts is_announced is_open shown returned_message revoke revoking_refused confirmed_line returned_line refused_line award_line place_lines award_lines groups admitted_in admission_step announcement_step date_of time_of reception_in answer_line reception_step closing_step revocation_step allotting_step step holds_field walked log_of received_at session printed all_printed refused_with opening_fields application_by confirmed_as application_from branches branches_printed sessions
sessions-printed = tt
