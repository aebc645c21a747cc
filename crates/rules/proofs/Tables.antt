-- The tables hold: antt computes every row. Assumes nothing.
use Rattle.texts.specs.Texts.{same_text}
use Rattle.layout.specs.Fields.{field, one_of, starts, readable, offset, content, encoded}
use Rattle.digits.specs.Decimal.{all_digits, number_from, digits_of, digits}
use Rattle.calendar.specs.Calendar.{days_in}
use Rattle.addresses.specs.Addresses.{is_branch, branch_address, address_of, address_text}
use Rattle.places.specs.Bids.{is_place, place_of, places_in, place_text, places_text, places_fit}
use Rattle.envelope.specs.Refusals.{first_holding}
use Rattle.envelope.specs.Application.{layout6_g1, fields_of, is_identifier, numbers_fit, texts_fit, written, write}
use Rattle.announcement.specs.Announcement.{layout6_g0, tender_type_of, joined, numbers_in, characteristics_of, references_of, announcement_of}
use Rattle.rules.specs.Opening.{any, not_announcement, other_origin, well_formed, malformed_announcement, unknown_type, impossible, impossible_numbers, dates_disordered, rising, bad_codes, limits_miscounted, limit_too_long, opening_refused, terms_of}
use Rattle.rules.specs.Receiving.{bids_in, when, sender_errors, date_errors, gap, fine_rate, small_bid, uneven_bid, over_maximum, bid_errors, place_errors, errors, is_empty, is_sound, submission, cancels, new_entry, new_book, is_after, is_from, takes, hold, returned_errors}
use Rattle.rules.specs.Allotment.{filled, better_rate, is_in, is_better, is_equal, keep, total, total_better, total_equal, binary_length_within, binary_length, first_digits, division_at, division, share, shares, cents_left, cent, award, awards_from, awards, sum, reaches, best_of, best_rate, marginal_rate}
use Rattle.rules.specs.Cuts.{invests, is_capped, cut_to, cut_above, left_of_cap, cut_bid, cut_from, cut_bids, cut_book}
use Rattle.rules.specs.Replies.{confirmation, error_text, error_texts, shown, returned_message}
use Rattle.rules.specs.Calls.{open_tender, is_revoked, is_over, clock_invalid, space_short, bids_in_book, receiving_refused, reply, book_after, answer_to, answer_with, answer_unless, receive, before_cut_off, is_open, is_announced, bids_exceed, closing_refused, close, allotting_refused, allot, preview_refused, preview, revoking_refused, revoke, bids_taken, bid_awards, awards_given, marginal_given, in640, allotment}
use Rattle.rules.specs.Events.{next_tender, after_events}
use Rattle.rules.specs.ArrivalOrder.{receive_all}
use Rattle.rules.specs.Messages.{altered, by_slashes, characteristics_with, announcement_with, announcement, terms, ten, numbers_between, numbers, message, message_with, zero_places, reception}
use Rattle.rules.specs.Marked.{error_codes, all_hold, found, worked, tender_after, answer_code, answer_after, shared, marginal, worked_awards, table, MarkedCases}
use Rattle.rules.specs.LimitRows.{limited_to, places, tens, cut_rates, cut_amounts, two_codes, many_awards, cut_rows, whole_rows, limited_tender, limited_awards, exceeding_uncut, called_rows, LimitRowsHold}
use Rattle.rules.specs.OpeningRows.{rising65, opening_rows, opening_order_rows, literal6_g0, built6_g0, term_numbers, term_rows}
use Rattle.rules.specs.Rows.{application, opened, wide, narrow, closed_with, receiving, state_rows, afterwards, event_rows, answer, second098, error_rows, collected, malformed_fields, other_fields, error_order_rows, five_errors, six_errors, returned_with, reply_rows, literal6_g1, submitted_numbers, literal_rows, numbers_with, writing_rows, literal_between, address_rows, address_writing_rows, RowsHold}

pub marked_cases : MarkedCases
unfolding same_text field one_of starts readable offset content encoded all_digits number_from digits_of digits days_in is_branch branch_address address_of address_text is_place place_of places_in place_text places_text first_holding layout6_g0 tender_type_of joined numbers_in characteristics_of references_of announcement_of layout6_g1 fields_of is_identifier written any not_announcement other_origin well_formed malformed_announcement unknown_type impossible impossible_numbers dates_disordered rising bad_codes limits_miscounted limit_too_long opening_refused terms_of bids_in when sender_errors date_errors gap fine_rate small_bid uneven_bid over_maximum bid_errors place_errors errors is_empty is_sound submission cancels new_entry new_book is_after is_from takes hold returned_errors filled better_rate is_in is_better is_equal keep total total_better total_equal binary_length_within binary_length first_digits division_at division share shares cents_left cent award awards_from awards reaches best_of best_rate marginal_rate open_tender is_revoked is_over clock_invalid space_short bids_in_book receiving_refused reply book_after answer_to answer_with answer_unless receive invests is_capped cut_to cut_above left_of_cap cut_bid cut_from cut_bids cut_book bids_taken bid_awards awards_given marginal_given in640 allotment receive_all altered by_slashes characteristics_with announcement_with announcement terms ten numbers_between numbers message reception error_codes all_hold found worked tender_after answer_code answer_after shared marginal worked_awards table
marked_cases = tt

pub rows_hold : RowsHold
unfolding same_text field one_of starts readable offset content encoded all_digits number_from digits_of digits days_in is_branch branch_address address_of address_text is_place place_of places_in place_text places_text first_holding layout6_g0 tender_type_of joined numbers_in characteristics_of references_of announcement_of layout6_g1 fields_of is_identifier written any not_announcement other_origin well_formed malformed_announcement unknown_type impossible impossible_numbers dates_disordered rising bad_codes limits_miscounted limit_too_long opening_refused terms_of bids_in when sender_errors date_errors gap fine_rate small_bid uneven_bid over_maximum bid_errors place_errors errors is_empty is_sound submission cancels new_entry new_book is_after is_from takes hold returned_errors filled keep total confirmation error_text error_texts shown returned_message open_tender is_revoked is_over clock_invalid space_short bids_in_book receiving_refused reply book_after answer_to answer_with answer_unless receive before_cut_off is_open is_announced bids_exceed closing_refused close allotting_refused allot preview_refused preview revoking_refused revoke in640 better_rate is_in altered by_slashes characteristics_with announcement_with announcement terms ten numbers_between numbers message message_with zero_places reception numbers_fit texts_fit places_fit write receive_all tender_after all_hold rising65 opening_rows opening_order_rows literal6_g0 built6_g0 term_numbers term_rows application opened wide narrow closed_with receiving next_tender after_events state_rows afterwards event_rows answer second098 error_rows collected malformed_fields other_fields error_order_rows five_errors six_errors returned_with reply_rows literal6_g1 submitted_numbers literal_rows numbers_with writing_rows literal_between address_rows address_writing_rows
rows_hold = tt

pub limit_rows_hold : LimitRowsHold
unfolding same_text field one_of starts readable offset content encoded all_digits number_from digits_of digits days_in is_branch branch_address address_of address_text is_place place_of places_in place_text places_text first_holding layout6_g0 tender_type_of joined numbers_in characteristics_of references_of announcement_of layout6_g1 fields_of is_identifier written any not_announcement other_origin well_formed malformed_announcement unknown_type impossible impossible_numbers dates_disordered rising bad_codes limits_miscounted limit_too_long opening_refused terms_of bids_in when sender_errors date_errors gap fine_rate small_bid uneven_bid over_maximum bid_errors place_errors errors is_empty is_sound submission cancels new_entry new_book is_after is_from takes hold returned_errors filled better_rate is_in is_better is_equal keep total total_better total_equal binary_length_within binary_length first_digits division_at division share shares cents_left cent award awards_from awards reaches best_of best_rate marginal_rate open_tender is_revoked is_over clock_invalid space_short bids_in_book receiving_refused reply book_after answer_to answer_with answer_unless receive invests is_capped cut_to cut_above left_of_cap cut_bid cut_from cut_bids cut_book bids_taken bid_awards awards_given marginal_given in640 allotment receive_all altered by_slashes characteristics_with announcement_with announcement terms ten numbers_between numbers message reception error_codes all_hold found worked tender_after answer_code answer_after shared marginal worked_awards before_cut_off is_open is_announced bids_exceed closing_refused close allotting_refused allot sum limited_to places tens cut_rates cut_amounts two_codes many_awards cut_rows whole_rows limited_tender limited_awards exceeding_uncut called_rows
limit_rows_hold = tt
