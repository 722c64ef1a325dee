-- Numbers of Linux's interface for programs that the call table uses, in addition to those of the files.
use Rattle.std.specs.Prelude.{ℕ, ◌-◌, ◌^◌}

-- error numbers: Linux, include/uapi/asm-generic/errno-base.h, and errno.h for the last
abbrev pub efault : ℕ
efault = 14

abbrev pub enotdir : ℕ
enotdir = 20

abbrev pub enametoolong : ℕ
enametoolong = 36

-- the directory argument that means the working directory, -100 in 32 bits: Linux, include/uapi/linux/fcntl.h
abbrev pub at_fdcwd : ℕ
at_fdcwd = 2 ^ 32 - 100

-- numbers of the calls on riscv64: Linux, include/uapi/asm-generic/unistd.h
abbrev pub sys_unlinkat : ℕ
sys_unlinkat = 35

abbrev pub sys_faccessat : ℕ
sys_faccessat = 48

abbrev pub sys_fchmodat : ℕ
sys_fchmodat = 53

abbrev pub sys_openat : ℕ
sys_openat = 56

abbrev pub sys_close : ℕ
sys_close = 57

abbrev pub sys_lseek : ℕ
sys_lseek = 62

abbrev pub sys_read : ℕ
sys_read = 63

abbrev pub sys_write : ℕ
sys_write = 64

abbrev pub sys_exit : ℕ
sys_exit = 93

abbrev pub sys_exit_group : ℕ
sys_exit_group = 94

abbrev pub sys_brk : ℕ
sys_brk = 214
