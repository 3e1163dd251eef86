mod Interspersing
