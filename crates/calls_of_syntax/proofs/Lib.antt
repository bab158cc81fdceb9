mod Roots
