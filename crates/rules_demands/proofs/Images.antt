-- T-02 written out, from its theorem; its examples, by computation over the definitions.
-- Assumes nothing.
use mathlib.Core.Path.{refl}
use Rattle.rules.specs.{Image.sum_of_words, Fault.{record_fault, records_fault, first_fault, image_of}}
use Rattle.rules.specs.Made.{made_record, made_records, made_image, carried, payload_of, making_of, reading_of}
use Rattle.rules.proofs.page.Images.{request_T02}
use Rattle.rules_demands.specs.Images.{ImagesWrittenOut, ImagesHeld}

pub written_out : ImagesWrittenOut
written_out =
    record {
      over_128_records = request_T02.over_128_records;
      good_image_law = λ payload version few some fits. (request_T02.made_well payload version few some fits).good_image_law;
      reads_back = λ payload version few some fits. (request_T02.made_well payload version few some fits).reads_back;
      its_bytes = λ payload version few some fits. (request_T02.made_well payload version few some fits).its_bytes;
      made_again = request_T02.made_again;
      one_part = λ payload. (request_T02.parts payload).one;
      room_for_all = λ payload. (request_T02.parts payload).enough;
      the_least = λ payload. (request_T02.parts payload).no_more;
      made_size = request_T02.made_size;
      read_size = request_T02.read_size;
      made_told = λ version payload output told e. (request_T02.made_told version payload output told e).its_length;
      made_fits = λ version payload output told e. (request_T02.made_told version payload output told e).room;
      read_told = λ image output told e. (request_T02.read_told image output told e).its_length;
      read_fits = λ image output told e. (request_T02.read_told image output told e).room;
    }

pub images_held : ImagesHeld
unfolding sum_of_words record_fault records_fault first_fault image_of made_record made_records made_image carried payload_of making_of reading_of
images_held =
    record {
      empty_payload = refl;
      last_part_padded = refl;
      padding_read_back = refl;
      cut_anywhere = refl;
      version_first = refl;
      then_records = refl;
      then_room = refl;
      else_made = refl;
      rest_stays = refl;
      none_written = refl;
      good_first = refl;
      then_room_too = refl;
      else_read = refl;
      rest_stays_too = refl;
      none_written_too = refl;
    }
