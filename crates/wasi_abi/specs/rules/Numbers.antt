-- Numbers of WASI preview 1 (the types `errno`, `rights`, `filetype`, `whence`, `oflags` and
-- `fdflags` of its witx files), and the sets of rights of this project's profile.
use Rattle.std.specs.Prelude.{ℕ, ◌==◌, bit_and, Bool}
use Rattle.std.specs.Int.{bit_at}
use Rattle.wasi_abi.specs.declared.errno.Errno.{Errno}
use Rattle.wasi_abi.specs.declared.file_type.FileType.{FileType}
use Rattle.wasi_abi.specs.declared.file_type.FileType.TheVariants as file_type
use Rattle.wasi_abi.specs.declared.rights.Rights.{Rights}
use Rattle.wasi_abi.specs.declared.flags.OpenFlags.{OpenFlags}
use Rattle.wasi_abi.specs.declared.flags.DescriptorFlags.{DescriptorFlags}
use Rattle.wasi_abi.specs.declared.flags.Whence.{Whence}
use Rattle.wasi_abi.specs.declared.flags.Whence.TheVariants as whence
use Rattle.wasi_abi.specs.declared.errno.Errno.TheVariants.{Badf, Exist, Fault, Fbig, Ilseq, Inval}
use Rattle.wasi_abi.specs.declared.errno.Errno.TheVariants.{Isdir, Mfile, Nametoolong, Noent, Nospc}
use Rattle.wasi_abi.specs.declared.errno.Errno.TheVariants.{Notdir, Notempty, Spipe, Notcapable}

-- the number of an error
abbrev pub errno_number : Errno → ℕ
errno_number Badf = 8
errno_number Exist = 20
errno_number Fault = 21
errno_number Fbig = 22
errno_number Ilseq = 25
errno_number Inval = 28
errno_number Isdir = 31
errno_number Mfile = 33
errno_number Nametoolong = 37
errno_number Noent = 44
errno_number Nospc = 51
errno_number Notdir = 54
errno_number Notempty = 55
errno_number Spipe = 70
errno_number Notcapable = 76

-- ---- rights, by the numbers of their bits

-- the bit of the right `fd_datasync`
abbrev pub fd_datasync_right : ℕ
fd_datasync_right = 0

-- the bit of `fd_read`
abbrev pub fd_read_right : ℕ
fd_read_right = 1

-- the bit of `fd_seek`
abbrev pub fd_seek_right : ℕ
fd_seek_right = 2

-- the bit of `fd_fdstat_set_flags`
abbrev pub fd_fdstat_set_flags_right : ℕ
fd_fdstat_set_flags_right = 3

-- the bit of `fd_sync`
abbrev pub fd_sync_right : ℕ
fd_sync_right = 4

-- the bit of `fd_tell`
abbrev pub fd_tell_right : ℕ
fd_tell_right = 5

-- the bit of `fd_write`
abbrev pub fd_write_right : ℕ
fd_write_right = 6

-- the bit of `fd_advise`
abbrev pub fd_advise_right : ℕ
fd_advise_right = 7

-- the bit of `fd_allocate`
abbrev pub fd_allocate_right : ℕ
fd_allocate_right = 8

-- the bit of `path_create_directory`
abbrev pub path_create_directory_right : ℕ
path_create_directory_right = 9

-- the bit of `path_create_file`
abbrev pub path_create_file_right : ℕ
path_create_file_right = 10

-- the bit of `path_link_source`
abbrev pub path_link_source_right : ℕ
path_link_source_right = 11

-- the bit of `path_link_target`
abbrev pub path_link_target_right : ℕ
path_link_target_right = 12

-- the bit of `path_open`
abbrev pub path_open_right : ℕ
path_open_right = 13

-- the bit of `fd_readdir`
abbrev pub fd_readdir_right : ℕ
fd_readdir_right = 14

-- the bit of `path_readlink`
abbrev pub path_readlink_right : ℕ
path_readlink_right = 15

-- the bit of `path_rename_source`
abbrev pub path_rename_source_right : ℕ
path_rename_source_right = 16

-- the bit of `path_rename_target`
abbrev pub path_rename_target_right : ℕ
path_rename_target_right = 17

-- the bit of `path_filestat_get`
abbrev pub path_filestat_get_right : ℕ
path_filestat_get_right = 18

-- the bit of `path_filestat_set_size`
abbrev pub path_filestat_set_size_right : ℕ
path_filestat_set_size_right = 19

-- the bit of `path_filestat_set_times`
abbrev pub path_filestat_set_times_right : ℕ
path_filestat_set_times_right = 20

-- the bit of `fd_filestat_get`
abbrev pub fd_filestat_get_right : ℕ
fd_filestat_get_right = 21

-- the bit of `fd_filestat_set_size`
abbrev pub fd_filestat_set_size_right : ℕ
fd_filestat_set_size_right = 22

-- the bit of `fd_filestat_set_times`
abbrev pub fd_filestat_set_times_right : ℕ
fd_filestat_set_times_right = 23

-- the bit of `path_symlink`
abbrev pub path_symlink_right : ℕ
path_symlink_right = 24

-- the bit of `path_remove_directory`
abbrev pub path_remove_directory_right : ℕ
path_remove_directory_right = 25

-- the bit of `path_unlink_file`
abbrev pub path_unlink_file_right : ℕ
path_unlink_file_right = 26

-- the bit of `poll_fd_readwrite`
abbrev pub poll_fd_readwrite_right : ℕ
poll_fd_readwrite_right = 27

-- the bit of `sock_shutdown`
abbrev pub sock_shutdown_right : ℕ
sock_shutdown_right = 28

-- the number whose bits these rights are
abbrev pub rights_number : Rights → ℕ
rights_number r = r.0

-- the right with this bit is among these
abbrev pub has_right : ℕ → ℕ → Bool
has_right rights bit = bit_at rights bit == 1

-- these rights are all among those
abbrev pub are_within : ℕ → ℕ → Bool
are_within rights all = bit_and rights all == rights

-- ---- the profile's sets of rights

-- what a file may have, what a directory may have, and both together
abbrev pub file_rights : ℕ
file_rights = 0x0060007f

-- the rights of a directory (the product's)
abbrev pub directory_rights : ℕ
directory_rights = 0x062f6611

-- all rights that a descriptor may have (the product's)
abbrev pub all_rights : ℕ
all_rights = 0x066f667f

-- what the input stream has, and what each output stream has
abbrev pub input_rights : ℕ
input_rights = 0x00200002

-- the rights of an output stream (the product's)
abbrev pub output_rights : ℕ
output_rights = 0x00200040

-- ---- file types

-- the file type of a stream
abbrev pub character_device : ℕ
character_device = 2

-- the file type of a directory
abbrev pub directory_type : ℕ
directory_type = 3

-- the file type of a file
abbrev pub regular_file : ℕ
regular_file = 4

-- the number of a file type
abbrev pub file_type_number : FileType → ℕ
file_type_number file_type.CharacterDevice = character_device
file_type_number file_type.Directory = directory_type
file_type_number file_type.RegularFile = regular_file

-- ---- places that an offset is counted from

-- an offset is counted from the start
abbrev pub whence_set : ℕ
whence_set = 0

-- it is counted from where the descriptor is
abbrev pub whence_current : ℕ
whence_current = 1

-- it is counted from the end
abbrev pub whence_end : ℕ
whence_end = 2

-- what an argument says
abbrev pub whence_number : Whence → ℕ
whence_number whence.Set = whence_set
whence_number whence.Current = whence_current
whence_number whence.End = whence_end

-- ---- flags, by the numbers of their bits

-- the bit of `creat` in `oflags`
abbrev pub create_flag : ℕ
create_flag = 0

-- the bit of `directory` in `oflags`
abbrev pub directory_flag : ℕ
directory_flag = 1

-- the bit of `excl` in `oflags`
abbrev pub exclusive_flag : ℕ
exclusive_flag = 2

-- the bit of `trunc` in `oflags`
abbrev pub truncate_flag : ℕ
truncate_flag = 3

-- the bit of `append` in `fdflags`
abbrev pub append_flag : ℕ
append_flag = 0

-- this bit is set
abbrev pub has_flag : ℕ → ℕ → Bool
has_flag flags bit = bit_at flags bit == 1

-- the number whose bits these flags are
abbrev pub open_flags_number : OpenFlags → ℕ
open_flags_number f = f.0

-- the number of these flags
abbrev pub descriptor_flags_number : DescriptorFlags → ℕ
descriptor_flags_number f = f.0
